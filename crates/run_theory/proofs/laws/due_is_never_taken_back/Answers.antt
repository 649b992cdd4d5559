use Rattle.run_theory.proofs.Walks.{due_grows}
use Rattle.run_theory.proofs.laws.due_is_never_taken_back.Goals as goal

pub returns : goal.returns
returns g c = due_grows
