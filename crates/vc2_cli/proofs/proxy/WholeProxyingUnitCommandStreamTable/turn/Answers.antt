use Rattle.std.proofs.Common.{ℕ, ◌+◌, List, ap, sym, subst, arith}
use Rattle.std.specs.Io.KnownBytes.{Appends}
use Rattle.vc2_io.specs.Outside.{GrewShort}
use Rattle.stream_reader.specs.ReaderInside.{seen_of}
use Rattle.vc2_cli.specs.Proxy.{Proxied}
use Rattle.vc2_cli.proofs.LowDepths.{passed_low}
use Rattle.vc2_cli.proofs.Passing.{picture_is, one_is}
use Rattle.vc2_cli.proofs.Proxying.{whole_told}
use Rattle.vc2_cli.proofs.proxy.WholeProxyingUnitCommandStreamTable.turn.Goals as goal

pub returns-in-Err-clause-wrote : goal.returns-in-Err-clause-wrote
returns-in-Err-clause-wrote g c = λ before p keeps.
    let written = g.K.Sink.written in
    let d = c.in-Some.decoder.now in
    let level = c.args.self.now.level in
    subst (λ (text : List ℕ). GrewShort (written c.args.out.now) (written c.write_shown.new.out) text)
    (whole_told level p.unit (seen_of d) (omega (arith, passed_low before.past p.bytes p.unit p.stands, keeps.all)) (picture_is before c.args.table.now c.args.item p c.in-Some.ensures.some.0 d c.in-Some.ensures.some.1 keeps.keeps.makes))
    c.in-Err.ensures.err

pub returns-clause-wrote : goal.returns-clause-wrote
returns-clause-wrote g c = λ before p keeps.
    let written = g.K.Sink.written in
    let d = c.in-Some.decoder.now in
    let level = c.args.self.now.level in (
      subst (λ (text : List ℕ). Appends (written c.args.out.now) (written c.write_shown.new.out) text)
          (whole_told level p.unit (seen_of d) (omega (arith, passed_low before.past p.bytes p.unit p.stands, keeps.all)) (picture_is before c.args.table.now c.args.item p c.in-Some.ensures.some.0 d c.in-Some.ensures.some.1 keeps.keeps.makes))
          c.in-Ok.ensures.ok,
      ap (λ n. let own : Proxied = record { level = level; pictures = c.args.self.now.pictures + n } in own) (sym (one_is before c.args.table.now c.args.item p c.in-Some.ensures.some.0)),
    )
