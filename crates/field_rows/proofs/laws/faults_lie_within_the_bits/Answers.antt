use Rattle.field_rows.proofs.TheLaws.{fault_within}
use Rattle.field_rows.proofs.laws.faults_lie_within_the_bits.Goals as goal

pub returns : goal.returns
returns g c = fault_within
