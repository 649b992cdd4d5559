use Rattle.field_rows.proofs.TheLaws.{moved_the_same}
use Rattle.field_rows.proofs.laws.rows_are_read_behind_a_head.Goals as goal

pub returns : goal.returns
returns g c = moved_the_same
