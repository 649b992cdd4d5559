use Rattle.run_theory.proofs.UnitLaws.{run_of, answer_of_run}
use Rattle.vc2_cli.specs.Scheduled.{replay_machine}
use Rattle.vc2_cli.proofs.Replaying.{replay_laws}
use Rattle.vc2_cli.proofs.laws.one_schedule_answer.Goals as goal

pub returns-clause-found : goal.returns-clause-found
returns-clause-found c = λ schedule. run_of (replay_machine schedule) (replay_laws schedule)

pub returns-clause-only : goal.returns-clause-only
returns-clause-only c = λ schedule. answer_of_run (replay_machine schedule) (replay_laws schedule)
