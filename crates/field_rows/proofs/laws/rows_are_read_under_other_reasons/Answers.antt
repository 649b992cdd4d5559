use Rattle.field_rows.proofs.TheLaws.{renamed_the_same}
use Rattle.field_rows.proofs.laws.rows_are_read_under_other_reasons.Goals as goal

pub returns : goal.returns
returns g c = renamed_the_same
