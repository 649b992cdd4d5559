use Rattle.vc2_cli.specs.Proxy.{proxy_machine}
use Rattle.vc2_cli.proofs.Proxying.{proxy_laws, proxy_opens}
use Rattle.unit_reader.proofs.Exits.{none_soon}
use Rattle.vc2_cli.specs.Endings.{MayEndOtherwise}
use Rattle.vc2_cli.proofs.proxy.lower_proxies.Goals as goal

pub returns-in-Err-clause-soon : goal.returns-in-Err-clause-soon
returns-in-Err-clause-soon g c = none_soon MayEndOtherwise (proxy_machine c.args.level) (proxy_laws c.args.level) (proxy_opens c.args.level) (g.S.Source.rest c.args.src.now) _
