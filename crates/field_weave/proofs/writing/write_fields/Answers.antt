use Rattle.std.proofs.Common.{◌≡◌, [], ◌++◌, true, false, ap}
use Rattle.std.proofs.lemmas.Result.{on_ok_weaker, on_err_weaker}
use Rattle.vc2_io.proofs.Short.{GrewShort-first}
use Rattle.slice_geometry.specs.Frames.{frame_of}
use Rattle.raw_video.specs.RawText.{raw_text}
use Rattle.raw_video.specs.Waiting.{RawWriterSeen}
use Rattle.raw_video.proofs.Pieces.{OnErr-always}
use Rattle.raw_video.proofs.Waits.{passes_then, short_then, passes_all, short_at_last}
use Rattle.field_weave.specs.Weaving.{split}
use Rattle.field_weave.proofs.WrittenLines.{passes_from, short_from}
use Rattle.field_weave.proofs.writing.write_fields.Goals as goal

pub returns-in_err-write_field-clause-err : goal.returns-in_err-write_field-clause-err
returns-in_err-write_field-clause-err g c =
    let written = g.K.Sink.written in
    let f = frame_of c.args.field.now in
    let t1 = raw_text f (split c.args.order f false c.args.frame.now.samples) in
    let t2 = raw_text f (split c.args.order f true c.args.frame.now.samples) in
    let out0 = written c.args.out.now in
    let p = c.new-writer.result.waiting in
    let empty : p ≡ [] = ap (λ (w : RawWriterSeen). w.waiting) c.new-writer.ensures in
    let out1 = written c.write_field.new.out in
    OnErr-always c.from_residual.result (GrewShort-first out0 out1 t1 t2 (short_from out0 out1 p t1 empty c.in_err-write_field.ensures.err))

pub returns-in_err-write_field-2-clause-err : goal.returns-in_err-write_field-2-clause-err
returns-in_err-write_field-2-clause-err g c =
    let written = g.K.Sink.written in
    let f = frame_of c.args.field.now in
    let t1 = raw_text f (split c.args.order f false c.args.frame.now.samples) in
    let t2 = raw_text f (split c.args.order f true c.args.frame.now.samples) in
    let out0 = written c.args.out.now in
    let p = c.new-writer.result.waiting in
    let empty : p ≡ [] = ap (λ (w : RawWriterSeen). w.waiting) c.new-writer.ensures in
    let out1 = written c.write_field.new.out in
    let q1 = c.write_field.new.writer.waiting in
    let out2 = written c.write_field-2.new.out in
    OnErr-always c.from_residual-in_err-write_field-2.result
    (short_from out0 out2 p (t1 ++ t2) empty (short_then out0 out1 p q1 t1 c.in_ok-write_field.ensures.ok out2 t2 c.in_err-write_field-2.ensures.err))

pub returns-clause-ok : goal.returns-clause-ok
returns-clause-ok g c =
    let written = g.K.Sink.written in
    let f = frame_of c.args.field.now in
    let t1 = raw_text f (split c.args.order f false c.args.frame.now.samples) in
    let t2 = raw_text f (split c.args.order f true c.args.frame.now.samples) in
    let out0 = written c.args.out.now in
    let p = c.new-writer.result.waiting in
    let empty : p ≡ [] = ap (λ (w : RawWriterSeen). w.waiting) c.new-writer.ensures in
    let out1 = written c.write_field.new.out in
    let q1 = c.write_field.new.writer.waiting in
    let out2 = written c.write_field-2.new.out in
    let q2 = c.write_field-2.new.writer.waiting in
    let all = passes_from out0 out2 p q2 (t1 ++ t2) empty (passes_then out0 out1 p q1 t1 c.in_ok-write_field.ensures.ok out2 q2 t2 c.in_ok-write_field-2.ensures.ok) in
    on_ok_weaker c.finish.result (λ wrote. passes_all out0 out2 q2 (t1 ++ t2) all (written c.finish.new.sink) wrote) c.finish.ensures.ok

pub returns-clause-err : goal.returns-clause-err
returns-clause-err g c =
    let written = g.K.Sink.written in
    let f = frame_of c.args.field.now in
    let t1 = raw_text f (split c.args.order f false c.args.frame.now.samples) in
    let t2 = raw_text f (split c.args.order f true c.args.frame.now.samples) in
    let out0 = written c.args.out.now in
    let p = c.new-writer.result.waiting in
    let empty : p ≡ [] = ap (λ (w : RawWriterSeen). w.waiting) c.new-writer.ensures in
    let out1 = written c.write_field.new.out in
    let q1 = c.write_field.new.writer.waiting in
    let out2 = written c.write_field-2.new.out in
    let q2 = c.write_field-2.new.writer.waiting in
    let all = passes_from out0 out2 p q2 (t1 ++ t2) empty (passes_then out0 out1 p q1 t1 c.in_ok-write_field.ensures.ok out2 q2 t2 c.in_ok-write_field-2.ensures.ok) in
    on_err_weaker c.finish.result (λ short. short_at_last out0 out2 q2 (t1 ++ t2) all (written c.finish.new.sink) short) c.finish.ensures.err
