use Rattle.field_rows.proofs.TheLaws.{ignores_more}
use Rattle.field_rows.proofs.laws.more_bits_change_nothing.Goals as goal

pub returns : goal.returns
returns g c = ignores_more
