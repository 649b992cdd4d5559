use Rattle.field_rows.proofs.TheLaws.{read_again}
use Rattle.field_rows.proofs.laws.written_is_read_again.Goals as goal

pub returns : goal.returns
returns g c = read_again
