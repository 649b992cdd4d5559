use Rattle.field_rows.proofs.TheLaws.{one_answer}
use Rattle.field_rows.proofs.laws.each_table_has_one_answer.Goals as goal

pub returns : goal.returns
returns g c = one_answer
