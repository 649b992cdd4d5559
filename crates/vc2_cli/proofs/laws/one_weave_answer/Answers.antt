use Rattle.run_theory.proofs.UnitLaws.{run_of, answer_of_run}
use Rattle.vc2_cli.specs.Weave.{weave_command_machine}
use Rattle.vc2_cli.proofs.Weaving.{weave_laws}
use Rattle.vc2_cli.proofs.laws.one_weave_answer.Goals as goal

pub returns-clause-found : goal.returns-clause-found
returns-clause-found c = λ video input is. run_of (weave_command_machine video) (weave_laws video is) input

pub returns-clause-only : goal.returns-clause-only
returns-clause-only c = λ video input answer is. answer_of_run (weave_command_machine video) (weave_laws video is) input answer
