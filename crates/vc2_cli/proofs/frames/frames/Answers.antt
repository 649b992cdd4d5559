use Rattle.std.proofs.Common.{subst}
use Rattle.run_theory.specs.Runs.{change, Runs}
use Rattle.field_weave.specs.declared.Order.{Order}
use Rattle.vc2_cli.specs.Weave.{order_of}
use Rattle.vc2_cli.specs.Frames.{frames_machine}
use Rattle.vc2_cli.proofs.Framing.{frames_laws, frames_opens}
use Rattle.unit_reader.proofs.Exits.{none_soon}
use Rattle.vc2_cli.specs.Endings.{IsDone, MayEndOtherwise}
use Rattle.vc2_cli.proofs.frames.frames.Goals as goal

pub returns-in-Err-clause-soon : goal.returns-in-Err-clause-soon
returns-in-Err-clause-soon g c = none_soon MayEndOtherwise (frames_machine (order_of c.args.top)) (frames_laws (order_of c.args.top)) (frames_opens (order_of c.args.top)) (g.S.Source.rest c.args.src.now) _

pub returns-in-Ok-clause-runs : goal.returns-in-Ok-clause-runs
returns-in-Ok-clause-runs g c =
    let src = change g.S.Source.rest g.S.Source.faults c.args.src.now c.run_units-result.new.src in
    let out = change g.K.Sink.written g.K.Sink.faults c.args.out.now c.run_units-result.new.out in
    subst (λ (o : Order). Runs (frames_machine o) IsDone src out c.run_units-result.result) c.order_of.ensures c.run_units-result.ensures.runs
