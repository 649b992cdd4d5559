use Rattle.std.proofs.Common.{ℕ, List, subst}
use Rattle.std.specs.Io.KnownBytes.{Appends}
use Rattle.vc2_io.specs.Outside.{GrewShort}
use Rattle.vc2_cli.proofs.Proxying.{picture_told, makes_for}
use Rattle.vc2_cli.proofs.proxy.write_proxy.Goals as goal

pub returns-in-Ok-result-clause-wrote : goal.returns-in-Ok-result-clause-wrote
returns-in-Ok-result-clause-wrote g c = λ unit t.
    let written = g.K.Sink.written in
    let d = c.args.decoder.now in
    let m = c.in-Ok.maker in
    subst (λ (text : List ℕ). Appends (written c.args.out.now) (written c.write_made-result.new.out) text)
    (picture_told d m c.args.level c.bands.result.now (record { same = c.bands.ensures.value; ready = c.bands.ensures.ready; unit = c.bands.ensures.unit }) (makes_for d _ _ c.args.level m c.shape.ensures c.params.ensures c.in-Ok.ensures) c.write_made-result.ensures.unit unit t) c.in-Ok-result.ensures.ok

pub returns-in-Err-result-clause-wrote : goal.returns-in-Err-result-clause-wrote
returns-in-Err-result-clause-wrote g c = λ unit t.
    let written = g.K.Sink.written in
    let d = c.args.decoder.now in
    let m = c.in-Ok.maker in
    subst (λ (text : List ℕ). GrewShort (written c.args.out.now) (written c.write_made-result.new.out) text)
    (picture_told d m c.args.level c.bands.result.now (record { same = c.bands.ensures.value; ready = c.bands.ensures.ready; unit = c.bands.ensures.unit }) (makes_for d _ _ c.args.level m c.shape.ensures c.params.ensures c.in-Ok.ensures) c.write_made-result.ensures.unit unit t) c.in-Err-result.ensures.err
