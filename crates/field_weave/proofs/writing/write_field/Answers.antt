use Rattle.std.proofs.Common.{◌≡◌, ℕ, ◌++◌, ap, subst, ◌∙◌}
use Rattle.std.proofs.lemmas.Result.{on_ok_weaker, on_err_weaker}
use Rattle.vc2_io.proofs.Short.{GrewShort-along}
use Rattle.slice_geometry.specs.Frames.{Frame, frame_of}
use Rattle.picture_codec.specs.Samples.{PictureSamples}
use Rattle.raw_video.specs.RawText.{is_wide, raw_text}
use Rattle.raw_video.specs.Waiting.{PassesOn}
use Rattle.raw_video.proofs.Pieces.{OnErr-always}
use Rattle.field_weave.specs.Weaving.{split, split_lines}
use Rattle.field_weave.proofs.WrittenLines.{passes_by, short_by, luma_short, c1_short, c2_short, c2_passes}
use Rattle.field_weave.proofs.writing.write_field.Goals as goal

abbrev by_line : Frame → ℕ → PictureSamples → PictureSamples
by_line f line frame = record { luma = split_lines f.luma line frame.luma; c1 = split_lines f.colour line frame.c1; c2 = split_lines f.colour line frame.c2 }

pub returns-in_err-write_split-clause-err : goal.returns-in_err-write_split-clause-err
returns-in_err-write_split-clause-err g c =
    let written = g.K.Sink.written in
    let f = frame_of c.args.field.now in
    let s = by_line f c.line_of-line.result c.args.frame.now.samples in
    let out0 = written c.args.out.now in
    let b = c.args.writer.now.wide in
    let p = c.args.writer.now.waiting in
    let is : b ≡ is_wide f = c.requires.wide in
    let text : p ++ raw_text f s ≡ p ++ raw_text f (split c.args.order f c.args.second c.args.frame.now.samples) = ap (λ (n : ℕ). p ++ raw_text f (by_line f n c.args.frame.now.samples)) c.line_of-line.ensures.value in
    let out1 = written c.write_split.new.out in
    OnErr-always c.from_residual.result (GrewShort-along out0 out1 _ _ text (luma_short b f s is out0 p out1 c.in_err-write_split.ensures.err))

pub returns-in_err-write_split-2-clause-err : goal.returns-in_err-write_split-2-clause-err
returns-in_err-write_split-2-clause-err g c =
    let written = g.K.Sink.written in
    let f = frame_of c.args.field.now in
    let s = by_line f c.line_of-line.result c.args.frame.now.samples in
    let out0 = written c.args.out.now in
    let b = c.args.writer.now.wide in
    let p = c.args.writer.now.waiting in
    let is : b ≡ is_wide f = c.requires.wide in
    let text : p ++ raw_text f s ≡ p ++ raw_text f (split c.args.order f c.args.second c.args.frame.now.samples) = ap (λ (n : ℕ). p ++ raw_text f (by_line f n c.args.frame.now.samples)) c.line_of-line.ensures.value in
    let out1 = written c.write_split.new.out in
    let q1 = c.write_split.new.writer.waiting in
    let b1 = c.write_split.new.writer.wide in
    let same1 : b1 ≡ b = c.in_ok-write_split.ensures.wide in
    let luma = c.in_ok-write_split.ensures.ok in
    let out2 = written c.write_split-2.new.out in
    let short = short_by b1 b s.c1.cells out1 out2 q1 same1 c.in_err-write_split-2.ensures.err in
    OnErr-always c.from_residual-in_err-write_split-2.result (GrewShort-along out0 out2 _ _ text (c1_short b f s is out0 p out1 q1 luma out2 short))

pub returns-clause-ok : goal.returns-clause-ok
returns-clause-ok g c =
    let written = g.K.Sink.written in
    let f = frame_of c.args.field.now in
    let s = by_line f c.line_of-line.result c.args.frame.now.samples in
    let out0 = written c.args.out.now in
    let b = c.args.writer.now.wide in
    let p = c.args.writer.now.waiting in
    let is : b ≡ is_wide f = c.requires.wide in
    let text : p ++ raw_text f s ≡ p ++ raw_text f (split c.args.order f c.args.second c.args.frame.now.samples) = ap (λ (n : ℕ). p ++ raw_text f (by_line f n c.args.frame.now.samples)) c.line_of-line.ensures.value in
    let out1 = written c.write_split.new.out in
    let q1 = c.write_split.new.writer.waiting in
    let b1 = c.write_split.new.writer.wide in
    let same1 : b1 ≡ b = c.in_ok-write_split.ensures.wide in
    let luma = c.in_ok-write_split.ensures.ok in
    let out2 = written c.write_split-2.new.out in
    let q2 = c.write_split-2.new.writer.waiting in
    let b2 = c.write_split-2.new.writer.wide in
    let same2 : b2 ≡ b = c.in_ok-write_split-2.ensures.wide ∙ same1 in
    let c1 = passes_by b1 b s.c1.cells out1 out2 q1 q2 same1 c.in_ok-write_split-2.ensures.ok in
    let out3 = written c.write_split-3.new.out in
    let q3 = c.write_split-3.new.writer.waiting in
    on_ok_weaker c.write_split-3.result
    (λ wrote. subst (λ (n : ℕ). PassesOn out0 out3 p q3 (raw_text f (by_line f n c.args.frame.now.samples))) c.line_of-line.ensures.value
    (c2_passes b f s is out0 p out1 q1 luma out2 q2 c1 out3 q3 (passes_by b2 b s.c2.cells out2 out3 q2 q3 same2 wrote)))
    c.write_split-3.ensures.ok

pub returns-clause-err : goal.returns-clause-err
returns-clause-err g c =
    let written = g.K.Sink.written in
    let f = frame_of c.args.field.now in
    let s = by_line f c.line_of-line.result c.args.frame.now.samples in
    let out0 = written c.args.out.now in
    let b = c.args.writer.now.wide in
    let p = c.args.writer.now.waiting in
    let is : b ≡ is_wide f = c.requires.wide in
    let text : p ++ raw_text f s ≡ p ++ raw_text f (split c.args.order f c.args.second c.args.frame.now.samples) = ap (λ (n : ℕ). p ++ raw_text f (by_line f n c.args.frame.now.samples)) c.line_of-line.ensures.value in
    let out1 = written c.write_split.new.out in
    let q1 = c.write_split.new.writer.waiting in
    let b1 = c.write_split.new.writer.wide in
    let same1 : b1 ≡ b = c.in_ok-write_split.ensures.wide in
    let luma = c.in_ok-write_split.ensures.ok in
    let out2 = written c.write_split-2.new.out in
    let q2 = c.write_split-2.new.writer.waiting in
    let b2 = c.write_split-2.new.writer.wide in
    let same2 : b2 ≡ b = c.in_ok-write_split-2.ensures.wide ∙ same1 in
    let c1 = passes_by b1 b s.c1.cells out1 out2 q1 q2 same1 c.in_ok-write_split-2.ensures.ok in
    let out3 = written c.write_split-3.new.out in
    on_err_weaker c.write_split-3.result
    (λ short. GrewShort-along out0 out3 _ _ text (c2_short b f s is out0 p out1 q1 luma out2 q2 c1 out3 (short_by b2 b s.c2.cells out2 out3 q2 same2 short)))
    c.write_split-3.ensures.err
