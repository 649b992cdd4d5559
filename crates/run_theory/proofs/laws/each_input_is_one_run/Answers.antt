use Rattle.run_theory.proofs.UnitLaws.{run_of, answer_of_run}
use Rattle.run_theory.proofs.laws.each_input_is_one_run.Goals as goal

pub returns-clause-found : goal.returns-clause-found
returns-clause-found g c = run_of

pub returns-clause-only : goal.returns-clause-only
returns-clause-only g c = answer_of_run
