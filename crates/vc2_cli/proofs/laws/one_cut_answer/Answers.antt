use Rattle.run_theory.proofs.UnitLaws.{run_of, answer_of_run}
use Rattle.vc2_cli.specs.Cut.{cut_command_machine}
use Rattle.vc2_cli.proofs.Cutting.{cut_laws}
use Rattle.vc2_cli.proofs.laws.one_cut_answer.Goals as goal

pub returns-clause-found : goal.returns-clause-found
returns-clause-found c = λ settings. run_of (cut_command_machine settings) (cut_laws settings)

pub returns-clause-only : goal.returns-clause-only
returns-clause-only c = λ settings. answer_of_run (cut_command_machine settings) (cut_laws settings)
