use Rattle.std.proofs.Common.{◌+◌, ap, sym}
use Rattle.vc2_cli.specs.Proxy.{Proxied}
use Rattle.vc2_cli.proofs.Passing.{taker_is, one_is}
use Rattle.vc2_cli.proofs.proxy.ProxyingUnitCommandStreamTable.turn.Goals as goal

pub returns-in-Err-clause-wrote : goal.returns-in-Err-clause-wrote
returns-in-Err-clause-wrote g c = λ before p few.
    c.in-Err.ensures.wrote p.unit (taker_is before c.args.table.now c.args.item p c.in-Some.ensures.some.0 c.in-Some.decoder.now c.in-Some.ensures.some.1)

pub returns-clause-wrote : goal.returns-clause-wrote
returns-clause-wrote g c = λ before p few.
    let told = c.in-Some.ensures.some.0 in (
      c.in-Ok.ensures.wrote p.unit (taker_is before c.args.table.now c.args.item p told c.in-Some.decoder.now c.in-Some.ensures.some.1),
      ap (λ n. let own : Proxied = record { level = c.args.self.now.level; pictures = c.args.self.now.pictures + n } in own) (sym (one_is before c.args.table.now c.args.item p told)),
    )
