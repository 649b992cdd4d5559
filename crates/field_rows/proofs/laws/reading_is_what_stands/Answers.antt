use Rattle.field_rows.proofs.TheLaws.{reads_what_stands}
use Rattle.field_rows.proofs.laws.reading_is_what_stands.Goals as goal

pub returns : goal.returns
returns g c = reads_what_stands
