use Rattle.run_theory.proofs.UnitLaws.{run_of, answer_of_run}
use Rattle.vc2_cli.specs.Frames.{frames_machine}
use Rattle.vc2_cli.proofs.Framing.{frames_laws}
use Rattle.vc2_cli.proofs.laws.one_frames_answer.Goals as goal

pub returns-clause-found : goal.returns-clause-found
returns-clause-found c = λ order. run_of (frames_machine order) (frames_laws order)

pub returns-clause-only : goal.returns-clause-only
returns-clause-only c = λ order. answer_of_run (frames_machine order) (frames_laws order)
