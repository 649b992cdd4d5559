use Rattle.std.proofs.Common.{◌≡◌, ◌∙◌, sym, ap, subst, arith}
use Rattle.slice_geometry.specs.declared.PictureShape.{PictureShape}
use Rattle.sequence_header.specs.Coding.{IsShapeOf}
use Rattle.picture_codec.specs.Samples.{PictureSamples, PictureSeen}
use Rattle.picture_codec.specs.Encoding.{slices_of}
use Rattle.trial_video.specs.Video.{TrialVideoSeen}
use Rattle.stream_rows.specs.Streams.{frame_under}
use Rattle.stream_writer.specs.Writer.{StreamWriterSeen}
use Rattle.vc2_words.specs.Shown.{shown}
use Rattle.vc2_cli.proofs.StreamSinks.{picture_stop, end_stop}
use Rattle.vc2_cli.proofs.TrialWritten.{has_room, picture_fits, written_more, end_fits, planned_all}
use Rattle.vc2_cli.proofs.trial.write_video.Goals as goal

pub want_of-requires : goal.want_of-requires
want_of-requires c =
    let a = c.args in
    let l = c.loop-n in
    let w = l.writer in
    let b = l.invariant.begun in
    let p : PictureSamples = c.next.new.picture.samples in
    let is = ap (λ (x : PictureSeen). x.samples) c.next.ensures.picture in
    picture_stop w c.picture-written.new.self (slices_of (frame_under w.settings.parts) w.settings.params p) l.sink c.picture-written.new.sink c.in-Err.stop
    (has_room (shown a.settings.now) a.part c.requires.lawful l._n l.video w l.sink b c.loop-n-test.true p is) c.steady.ensures c.steady-in-loop-n.ensures (c.in-Err.ensures.picture (ap (λ (x : StreamWriterSeen). x.stop) b.stands)) (c.in-Err.ensures.cause (ap (λ (x : StreamWriterSeen). x.stop) b.stands))
    (picture_fits (shown a.settings.now) a.part c.requires.lawful l._n l.video w l.sink b c.loop-n-test.true p is)

pub loop-n-preserved : goal.loop-n-preserved
loop-n-preserved c =
    let a = c.args in
    let l = c.loop-n in
    let w = l.writer in
    let b = l.invariant.begun in
    let p : PictureSamples = c.next.new.picture.samples in
    let is = ap (λ (x : PictureSeen). x.samples) c.next.ensures.picture in
    let shape : c.next.new.picture.shape ≡ l.picture.shape = ap (λ (x : PictureSeen). x.shape) c.next.ensures.picture in
    record {
      pictures = subst (λ (x : PictureShape). IsShapeOf x (shown a.settings.now).parts) (sym shape) l.invariant.pictures;
      shape = shape ∙ l.invariant.shape ∙ sym (ap (λ (v : TrialVideoSeen). v.shape) c.next.ensures.after);
      begun =
          written_more (shown a.settings.now) a.part c.requires.lawful l._n l.video w l.sink b c.loop-n-test.true p is c.next.new.self c.picture-written.new.self c.picture-written.new.sink
          c.next.ensures.after (c.in-Ok.ensures.picture (ap (λ (x : StreamWriterSeen). x.stop) b.stands));
    }

pub want_of-requires-in-Err-ended : goal.want_of-requires-in-Err-ended
want_of-requires-in-Err-ended c =
    let a = c.args in
    let l = c.loop-n in
    let b = l.invariant.begun in
    let over : l._n ≡ a.part.pictures = omega (arith, c.loop-n-test.false, l.auto._n-end) in
    end_stop l.writer c.end-ended.new.self l.sink c.end-ended.new.sink c.in-Err-ended.stop c.steady-2.ensures c.steady-3.ensures (c.in-Err-ended.ensures.end (ap (λ (x : StreamWriterSeen). x.stop) b.stands)) (c.in-Err-ended.ensures.cause (ap (λ (x : StreamWriterSeen). x.stop) b.stands))
    (end_fits (shown a.settings.now) a.part c.requires.lawful l._n l.video l.writer l.sink b over)

pub returns-in-Ok-ended-clause-plan : goal.returns-in-Ok-ended-clause-plan
returns-in-Ok-ended-clause-plan c =
    let a = c.args in
    let l = c.loop-n in
    let b = l.invariant.begun in
    let over : l._n ≡ a.part.pictures = omega (arith, c.loop-n-test.false, l.auto._n-end) in
    c.replayed_plan.ensures
    ∙ planned_all (shown a.settings.now) a.part c.requires.lawful l._n l.video l.writer l.sink b over c.end-ended.new.self c.shapes.result.now _ _ (c.in-Ok-ended.ensures.end (ap (λ (x : StreamWriterSeen). x.stop) b.stands)) c.shapes.ensures.units c.shapes.ensures.total
