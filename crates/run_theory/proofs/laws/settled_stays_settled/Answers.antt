use Rattle.run_theory.proofs.GrammarLaws.{waits_front}
use Rattle.run_theory.proofs.laws.settled_stays_settled.Goals as goal

pub returns : goal.returns
returns g c = waits_front
