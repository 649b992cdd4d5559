use Rattle.std.proofs.Common.{◌≡◌, [], ap, ◌∙◌}
use Rattle.std.proofs.lemmas.Result.{on_ok_weaker, on_err_weaker}
use Rattle.slice_geometry.specs.declared.PictureShape.{PictureShape}
use Rattle.slice_geometry.specs.Frames.{frame_of}
use Rattle.raw_video.specs.RawText.{is_wide, raw_text}
use Rattle.raw_video.specs.Waiting.{RawWriterSeen}
use Rattle.raw_video.proofs.Pieces.{OnErr-always}
use Rattle.raw_video.proofs.Waits.{passes_all, short_at_last}
use Rattle.field_weave.specs.declared.Order.TheVariants.{Bottom}
use Rattle.field_weave.specs.Weaving.{frame_of_two, woven_frame}
use Rattle.field_weave.proofs.WrittenLines.{passes_by, short_by, passes_from, short_from, luma_short, c1_short, c2_short, c2_passes}
use Rattle.field_weave.proofs.writing.write_rows_of.Goals as goal

pub returns-in_err-write_alternating-clause-err : goal.returns-in_err-write_alternating-clause-err
returns-in_err-write_alternating-clause-err g c =
    let written = g.K.Sink.written in
    let f = frame_of_two (frame_of c.args.upper.now.shape) in
    let s = woven_frame Bottom (frame_of c.args.upper.now.shape) c.args.lower.now.samples c.args.upper.now.samples in
    let out0 = written c.args.out.now in
    let b = c.new-writer.result.wide in
    let p = c.new-writer.result.waiting in
    let empty : p ≡ [] = ap (λ (w : RawWriterSeen). w.waiting) c.new-writer.ensures in
    let is : b ≡ is_wide f = ap (λ (w : RawWriterSeen). w.wide) c.new-writer.ensures ∙ ap (λ (z : PictureShape). is_wide (frame_of z)) c.shape.ensures in
    let out1 = written c.write_alternating.new.out in
    OnErr-always c.from_residual.result (short_from out0 out1 p (raw_text f s) empty (luma_short b f s is out0 p out1 c.in_err-write_alternating.ensures.err))

pub returns-in_err-write_alternating-2-clause-err : goal.returns-in_err-write_alternating-2-clause-err
returns-in_err-write_alternating-2-clause-err g c =
    let written = g.K.Sink.written in
    let f = frame_of_two (frame_of c.args.upper.now.shape) in
    let s = woven_frame Bottom (frame_of c.args.upper.now.shape) c.args.lower.now.samples c.args.upper.now.samples in
    let out0 = written c.args.out.now in
    let b = c.new-writer.result.wide in
    let p = c.new-writer.result.waiting in
    let empty : p ≡ [] = ap (λ (w : RawWriterSeen). w.waiting) c.new-writer.ensures in
    let is : b ≡ is_wide f = ap (λ (w : RawWriterSeen). w.wide) c.new-writer.ensures ∙ ap (λ (z : PictureShape). is_wide (frame_of z)) c.shape.ensures in
    let out1 = written c.write_alternating.new.out in
    let q1 = c.write_alternating.new.writer.waiting in
    let b1 = c.write_alternating.new.writer.wide in
    let same1 : b1 ≡ b = c.in_ok-write_alternating.ensures.wide in
    let luma = c.in_ok-write_alternating.ensures.ok in
    let out2 = written c.write_alternating-2.new.out in
    let short = short_by b1 b s.c1.cells out1 out2 q1 same1 c.in_err-write_alternating-2.ensures.err in
    OnErr-always c.from_residual-in_err-write_alternating-2.result (short_from out0 out2 p (raw_text f s) empty (c1_short b f s is out0 p out1 q1 luma out2 short))

pub returns-in_err-write_alternating-3-clause-err : goal.returns-in_err-write_alternating-3-clause-err
returns-in_err-write_alternating-3-clause-err g c =
    let written = g.K.Sink.written in
    let f = frame_of_two (frame_of c.args.upper.now.shape) in
    let s = woven_frame Bottom (frame_of c.args.upper.now.shape) c.args.lower.now.samples c.args.upper.now.samples in
    let out0 = written c.args.out.now in
    let b = c.new-writer.result.wide in
    let p = c.new-writer.result.waiting in
    let empty : p ≡ [] = ap (λ (w : RawWriterSeen). w.waiting) c.new-writer.ensures in
    let is : b ≡ is_wide f = ap (λ (w : RawWriterSeen). w.wide) c.new-writer.ensures ∙ ap (λ (z : PictureShape). is_wide (frame_of z)) c.shape.ensures in
    let out1 = written c.write_alternating.new.out in
    let q1 = c.write_alternating.new.writer.waiting in
    let b1 = c.write_alternating.new.writer.wide in
    let same1 : b1 ≡ b = c.in_ok-write_alternating.ensures.wide in
    let luma = c.in_ok-write_alternating.ensures.ok in
    let out2 = written c.write_alternating-2.new.out in
    let q2 = c.write_alternating-2.new.writer.waiting in
    let b2 = c.write_alternating-2.new.writer.wide in
    let same2 : b2 ≡ b = c.in_ok-write_alternating-2.ensures.wide ∙ same1 in
    let c1 = passes_by b1 b s.c1.cells out1 out2 q1 q2 same1 c.in_ok-write_alternating-2.ensures.ok in
    let out3 = written c.write_alternating-3.new.out in
    let short = short_by b2 b s.c2.cells out2 out3 q2 same2 c.in_err-write_alternating-3.ensures.err in
    OnErr-always c.from_residual-in_err-write_alternating-3.result (short_from out0 out3 p (raw_text f s) empty (c2_short b f s is out0 p out1 q1 luma out2 q2 c1 out3 short))

pub returns-clause-ok : goal.returns-clause-ok
returns-clause-ok g c =
    let written = g.K.Sink.written in
    let f = frame_of_two (frame_of c.args.upper.now.shape) in
    let s = woven_frame Bottom (frame_of c.args.upper.now.shape) c.args.lower.now.samples c.args.upper.now.samples in
    let out0 = written c.args.out.now in
    let b = c.new-writer.result.wide in
    let p = c.new-writer.result.waiting in
    let empty : p ≡ [] = ap (λ (w : RawWriterSeen). w.waiting) c.new-writer.ensures in
    let is : b ≡ is_wide f = ap (λ (w : RawWriterSeen). w.wide) c.new-writer.ensures ∙ ap (λ (z : PictureShape). is_wide (frame_of z)) c.shape.ensures in
    let out1 = written c.write_alternating.new.out in
    let q1 = c.write_alternating.new.writer.waiting in
    let b1 = c.write_alternating.new.writer.wide in
    let same1 : b1 ≡ b = c.in_ok-write_alternating.ensures.wide in
    let luma = c.in_ok-write_alternating.ensures.ok in
    let out2 = written c.write_alternating-2.new.out in
    let q2 = c.write_alternating-2.new.writer.waiting in
    let b2 = c.write_alternating-2.new.writer.wide in
    let same2 : b2 ≡ b = c.in_ok-write_alternating-2.ensures.wide ∙ same1 in
    let c1 = passes_by b1 b s.c1.cells out1 out2 q1 q2 same1 c.in_ok-write_alternating-2.ensures.ok in
    let out3 = written c.write_alternating-3.new.out in
    let q3 = c.write_alternating-3.new.writer.waiting in
    let c2 = passes_by b2 b s.c2.cells out2 out3 q2 q3 same2 c.in_ok-write_alternating-3.ensures.ok in
    let all = passes_from out0 out3 p q3 (raw_text f s) empty (c2_passes b f s is out0 p out1 q1 luma out2 q2 c1 out3 q3 c2) in
    on_ok_weaker c.finish.result (λ wrote. passes_all out0 out3 q3 (raw_text f s) all (written c.finish.new.sink) wrote) c.finish.ensures.ok

pub returns-clause-err : goal.returns-clause-err
returns-clause-err g c =
    let written = g.K.Sink.written in
    let f = frame_of_two (frame_of c.args.upper.now.shape) in
    let s = woven_frame Bottom (frame_of c.args.upper.now.shape) c.args.lower.now.samples c.args.upper.now.samples in
    let out0 = written c.args.out.now in
    let b = c.new-writer.result.wide in
    let p = c.new-writer.result.waiting in
    let empty : p ≡ [] = ap (λ (w : RawWriterSeen). w.waiting) c.new-writer.ensures in
    let is : b ≡ is_wide f = ap (λ (w : RawWriterSeen). w.wide) c.new-writer.ensures ∙ ap (λ (z : PictureShape). is_wide (frame_of z)) c.shape.ensures in
    let out1 = written c.write_alternating.new.out in
    let q1 = c.write_alternating.new.writer.waiting in
    let b1 = c.write_alternating.new.writer.wide in
    let same1 : b1 ≡ b = c.in_ok-write_alternating.ensures.wide in
    let luma = c.in_ok-write_alternating.ensures.ok in
    let out2 = written c.write_alternating-2.new.out in
    let q2 = c.write_alternating-2.new.writer.waiting in
    let b2 = c.write_alternating-2.new.writer.wide in
    let same2 : b2 ≡ b = c.in_ok-write_alternating-2.ensures.wide ∙ same1 in
    let c1 = passes_by b1 b s.c1.cells out1 out2 q1 q2 same1 c.in_ok-write_alternating-2.ensures.ok in
    let out3 = written c.write_alternating-3.new.out in
    let q3 = c.write_alternating-3.new.writer.waiting in
    let c2 = passes_by b2 b s.c2.cells out2 out3 q2 q3 same2 c.in_ok-write_alternating-3.ensures.ok in
    let all = passes_from out0 out3 p q3 (raw_text f s) empty (c2_passes b f s is out0 p out1 q1 luma out2 q2 c1 out3 q3 c2) in
    on_err_weaker c.finish.result (λ short. short_at_last out0 out3 q3 (raw_text f s) all (written c.finish.new.sink) short) c.finish.ensures.err
