use Rattle.std.proofs.Common.{◌≡◌, ◌*◌, Result, sym, ap, subst, ◌∙◌}
use Rattle.slice_geometry.specs.declared.Size.{Size}
use Rattle.slice_geometry.specs.Shape.{IsSize}
use Rattle.slice_geometry.specs.Frames.{Frame, frame_of}
use Rattle.run_theory.specs.declared.Halt.{Halt}
use Rattle.stream_rows.specs.Streams.{frame_under}
use Rattle.stream_rows.proofs.Frames.{frame_is}
use Rattle.field_weave.specs.WeaveRuns as weaver
use Rattle.field_weave.specs.WeaveRuns.{WeaverSeen, Weaves}
use Rattle.field_weave.specs.declared.Order.{Order}
use Rattle.vc2_cli.specs.declared.status.Ending.{Ending}
use Rattle.run_theory.specs.Runs.{change, Runs}
use Rattle.vc2_cli.specs.Endings.{IsDone}
use Rattle.vc2_cli.specs.Weave.{order_of, weave_command_machine}
use Rattle.run_theory.proofs.Closing.{runs_unbegun}
use Rattle.vc2_cli.proofs.FieldSizes.{luma_doubled, colour_doubled}
use Rattle.vc2_cli.proofs.Weaving.{runs_told, soon_told, weave_unread}
use Rattle.vc2_cli.proofs.weave.weave.Goals as goal

pub new-requires-clause-luma : goal.new-requires-clause-luma
new-requires-clause-luma g c =
    subst (λ (s : Size). IsSize s.w (2 * s.h)) (sym c.picture_shape-shape.ensures.luma) (luma_doubled c.args.video.now.header c.requires.header.passes c.requires.fields)

pub new-requires-clause-colour : goal.new-requires-clause-colour
new-requires-clause-colour g c =
    subst (λ (s : Size). IsSize s.w (2 * s.h)) (sym c.picture_shape-shape.ensures.colour) (colour_doubled c.args.video.now.header c.requires.header.passes c.requires.fields)

pub returns-in-Ok : goal.returns-in-Ok
returns-in-Ok g c =
    let video = c.args.video.now in
    let rest = g.S.Source.rest in
    let written = g.K.Sink.written in
    let faults = g.S.Source.faults in
    let out_faults = g.K.Sink.faults in
    let src0 = c.args.src.now in
    let src1 = c.weave-result.new.src in
    let out0 = c.args.out.now in
    let out1 = c.weave-result.new.out in
    let top = order_of video.top in
    let f = frame_under video.header in
    let made = c.in-Ok.weaver in
    let order : made.order ≡ top = ap (λ (w : WeaverSeen). w.order) c.in-Ok.ensures ∙ c.order_of.ensures in
    let frame : frame_of made.field ≡ f = ap (λ (w : WeaverSeen). frame_of w.field) c.in-Ok.ensures ∙ frame_is video.header c.picture_shape-shape.result c.picture_shape-shape.ensures in
    let run = λ (o : Order) (h : Frame). (Weaves (weaver.weave_machine o h) (rest src0) (rest src1) (written out0) (written out1) (faults src0) (faults src1) (out_faults out0) (out_faults out1) c.weave-result.result) in
    let ran : run top f = subst (λ (o : Order). run o f) order (subst (λ (h : Frame). run made.order h) frame c.weave-result.ensures.weaves) in
    record {
      runs = subst (λ (r : Result Ending Halt). Runs (weave_command_machine video) IsDone (change rest faults src0 src1) (change written out_faults out0 out1) r) (sym c.outcome_of.ensures)
          (runs_told (weaver.weave_machine top f) (rest src0) (rest src1) (written out0) (written out1) (faults src0) (faults src1) (out_faults out0) (out_faults out1) c.weave-result.result ran);
      soon = soon_told (weaver.weave_machine top f) (rest src0) (rest src1) ran.soon;
    }

pub returns-in-Err : goal.returns-in-Err
returns-in-Err g c = record {
  runs = runs_unbegun (weave_command_machine c.args.video.now) IsDone (g.S.Source.rest c.args.src.now) (g.K.Sink.written c.args.out.now) (g.S.Source.faults c.args.src.now) (g.K.Sink.faults c.args.out.now);
  soon = weave_unread c.args.video.now c.requires (g.S.Source.rest c.args.src.now);
}
