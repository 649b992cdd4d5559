use Rattle.run_theory.proofs.UnitLaws.{run_of, answer_of_run}
use Rattle.vc2_cli.specs.Weave.{split_command_machine}
use Rattle.vc2_cli.proofs.Weaving.{split_laws}
use Rattle.vc2_cli.proofs.laws.one_split_answer.Goals as goal

pub returns-clause-found : goal.returns-clause-found
returns-clause-found c = λ video input is. run_of (split_command_machine video) (split_laws video is) input

pub returns-clause-only : goal.returns-clause-only
returns-clause-only c = λ video input answer is. answer_of_run (split_command_machine video) (split_laws video is) input answer
