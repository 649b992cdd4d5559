use Rattle.run_theory.proofs.UnitLaws.{run_of, answer_of_run}
use Rattle.vc2_cli.specs.Proxy.{proxy_machine}
use Rattle.vc2_cli.proofs.Proxying.{proxy_laws}
use Rattle.vc2_cli.proofs.laws.one_proxy_answer.Goals as goal

pub returns-clause-found : goal.returns-clause-found
returns-clause-found c = λ level. run_of (proxy_machine level) (proxy_laws level)

pub returns-clause-only : goal.returns-clause-only
returns-clause-only c = λ level. answer_of_run (proxy_machine level) (proxy_laws level)
