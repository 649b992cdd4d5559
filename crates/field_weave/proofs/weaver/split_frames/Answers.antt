use Rattle.std.proofs.Common.{◌≡◌, ℕ, ◌+◌, ◌<◌, Ok, Err, refl, sym, ap, subst, ◌∙◌, arith}
use Rattle.std.proofs.lemmas.Grind.{common_steps}
use Rattle.vc2_io.proofs.Known.{Appends-none}
use Rattle.slice_geometry.specs.declared.PictureShape.{PictureShape}
use Rattle.slice_geometry.specs.Frames.{Frame, frame_of}
use Rattle.raw_video.specs.RawParse.{raw_length}
use Rattle.raw_video.specs.Reading.{RawReaderSeen, ReadsFront, reader_after}
use Rattle.raw_video.specs.declared.reader.RawStep.{RawStep}
use Rattle.raw_video.specs.declared.reader.RawStep.TheVariants.{Picture, End}
use Rattle.field_weave.specs.declared.weaver.WeaveStop.{WeaveStop}
use Rattle.field_weave.specs.Weaving.{frame_of_two}
use Rattle.raw_video.specs.PictureRuns.{BehindPictures, Goes}
use Rattle.field_weave.specs.WeaveRuns.{splitting, split_machine, Weaves}
use Rattle.raw_video.proofs.PictureTurns.{some_raw, goes_first, goes_more}
use Rattle.field_weave.proofs.Weaves.{splitting_ends, weaves_refused, weaves_ended, weaves_short}
use Rattle.field_weave.proofs.weaver.split_frames.Goals as goal

abbrev behind : ℕ → ℕ → BehindPictures ℕ
behind place frames = record { place = place; own = frames }

-- the frames of these fields have a byte
some_frame : (frame : PictureShape) (f : Frame) → frame_of frame ≡ frame_of_two f → 0 < raw_length (frame_of_two f)
some_frame frame f is = subst (λ (h : Frame). 0 < raw_length h) is (some_raw frame)

pub frames-init : goal.frames-init
frames-init g c =
    let rest = g.S.Source.rest c.args.src.now in
    let out = g.K.Sink.written c.args.out.now in
    let order = c.args.order in
    let f = frame_of c.args.field.now in
    record {
      unrefused = ap (λ (r : RawReaderSeen). r.refused) c.new-reader.ensures;
      shape = ap (λ (r : RawReaderSeen). r.shape) c.new-reader.ensures ∙ c.shape.ensures;
      frame_shape = refl;
      few = omega arith;
      goes = subst (λ (k : ℕ). Goes (frame_of_two f) (splitting order f) (behind k 0) rest rest out out) (sym (ap (λ (r : RawReaderSeen). r.place) c.new-reader.ensures))
          (goes_first (frame_of_two f) (splitting order f) (some_frame c.args.frame.now.shape f c.requires) rest out out (Appends-none out out refl));
      steady = refl;
      steady_out = refl;
    }

pub returns-in-Ok-End-clause-weaves : goal.returns-in-Ok-End-clause-weaves
returns-in-Ok-End-clause-weaves g c =
    let l = c.frames in
    let i = l.invariant in
    let order = c.args.order in
    let f = frame_of c.args.field.now in
    let rest = g.S.Source.rest in
    let written = g.K.Sink.written in
    let faults = g.S.Source.faults in
    let out_faults = g.K.Sink.faults in
    let p = c.next.new.picture.samples in
    let shape = ap (λ (s : PictureShape). frame_of s) (i.shape ∙ i.frame_shape) ∙ c.requires in
    let front = subst (λ (h : Frame). ReadsFront h l.reader.place (rest l.src) (rest c.next.new.src) p (Ok End)) shape
    (subst (λ (s : RawStep). ReadsFront (frame_of l.reader.shape) l.reader.place (rest l.src) (rest c.next.new.src) p (Ok s)) c.in-Ok-End.field-0-is c.in-Ok-End.ensures.front) in
    weaves_ended (frame_of_two f) (splitting order f) (some_frame c.args.frame.now.shape f c.requires) refl (splitting_ends order f) (behind l.reader.place l.frames) (rest c.args.src.now) (rest l.src) (written c.args.out.now) (written l.out) i.goes
    (faults c.args.src.now) (faults l.src) (faults c.next.new.src) (out_faults c.args.out.now) (out_faults l.out) i.steady i.steady_out (rest c.next.new.src) p l.frames front refl refl c.in-Ok-End.ensures.cause

pub returns-in-Err-clause-weaves : goal.returns-in-Err-clause-weaves
returns-in-Err-clause-weaves g c =
    let l = c.frames in
    let i = l.invariant in
    let order = c.args.order in
    let f = frame_of c.args.field.now in
    let rest = g.S.Source.rest in
    let written = g.K.Sink.written in
    let faults = g.S.Source.faults in
    let out_faults = g.K.Sink.faults in
    let p = c.next.new.picture.samples in
    let shape = ap (λ (s : PictureShape). frame_of s) (i.shape ∙ i.frame_shape) ∙ c.requires in
    let front = subst (λ (h : Frame). ReadsFront h l.reader.place (rest l.src) (rest c.next.new.src) p (Err c.in-Err.fault)) shape c.in-Err.ensures.front in
    subst (λ (s : WeaveStop). Weaves (split_machine order f) (rest c.args.src.now) (rest c.next.new.src) (written c.args.out.now) (written l.out) (faults c.args.src.now) (faults c.next.new.src) (out_faults c.args.out.now) (out_faults l.out) (Err s))
    (sym c.stop_of.ensures)
    (weaves_refused (frame_of_two f) (splitting order f) (some_frame c.args.frame.now.shape f c.requires) refl (splitting_ends order f) (behind l.reader.place l.frames) (rest c.args.src.now) (rest l.src) (written c.args.out.now) (written l.out) i.goes
    (faults c.args.src.now) (faults l.src) (faults c.next.new.src) (out_faults c.args.out.now) (out_faults l.out) i.steady i.steady_out (rest c.next.new.src) p c.in-Err.fault front c.in-Err.ensures.cause)

pub returns-in-Err-write_fields-clause-weaves : goal.returns-in-Err-write_fields-clause-weaves
returns-in-Err-write_fields-clause-weaves g c =
    let l = c.frames in
    let i = l.invariant in
    let order = c.args.order in
    let f = frame_of c.args.field.now in
    let rest = g.S.Source.rest in
    let written = g.K.Sink.written in
    let faults = g.S.Source.faults in
    let out_faults = g.K.Sink.faults in
    let p = c.next.new.picture.samples in
    let shape = ap (λ (s : PictureShape). frame_of s) (i.shape ∙ i.frame_shape) ∙ c.requires in
    let front = subst (λ (h : Frame). ReadsFront h l.reader.place (rest l.src) (rest c.next.new.src) p (Ok Picture)) shape
    (subst (λ (s : RawStep). ReadsFront (frame_of l.reader.shape) l.reader.place (rest l.src) (rest c.next.new.src) p (Ok s)) c.in-Ok-Picture.field-0-is c.in-Ok-Picture.ensures.front) in
    let short = c.in-Err-write_fields.ensures.err in
    weaves_short (frame_of_two f) (splitting order f) (some_frame c.args.frame.now.shape f c.requires) refl (splitting_ends order f) (behind l.reader.place l.frames) (rest c.args.src.now) (rest l.src) (written c.args.out.now) (written l.out) i.goes
    (faults c.args.src.now) (faults l.src) (faults c.next.new.src) (out_faults c.args.out.now) (out_faults l.out) i.steady i.steady_out (rest c.next.new.src) p (written c.write_fields.new.out) (out_faults c.write_fields.new.out) front refl short
    c.in-Ok-Picture.ensures.cause c.in-Err-write_fields.ensures.cause

pub frames-preserved : goal.frames-preserved
frames-preserved g c =
    let l = c.frames in
    let i = l.invariant in
    let order = c.args.order in
    let f = frame_of c.args.field.now in
    let rest = g.S.Source.rest in
    let written = g.K.Sink.written in
    let p = c.next.new.picture.samples in
    let out1 = written l.out in
    let out2 = written c.write_fields.new.out in
    let shape = ap (λ (s : PictureShape). frame_of s) (i.shape ∙ i.frame_shape) ∙ c.requires in
    let after : c.next.new.self ≡ reader_after l.reader (Ok Picture) = subst (λ (s : RawStep). c.next.new.self ≡ reader_after l.reader (Ok s)) c.in-Ok-Picture.field-0-is c.in-Ok-Picture.ensures.after in
    let place : c.next.new.self.place ≡ l.reader.place + raw_length (frame_of_two f) = ap (λ (r : RawReaderSeen). r.place) after ∙ ap (λ (h : Frame). l.reader.place + raw_length h) shape in
    let front = subst (λ (h : Frame). ReadsFront h l.reader.place (rest l.src) (rest c.next.new.src) p (Ok Picture)) shape
    (subst (λ (s : RawStep). ReadsFront (frame_of l.reader.shape) l.reader.place (rest l.src) (rest c.next.new.src) p (Ok s)) c.in-Ok-Picture.field-0-is c.in-Ok-Picture.ensures.front) in
    let wrote = c.in-Ok.ensures.ok in
    let some = some_frame c.args.frame.now.shape f c.requires in
    record {
      unrefused = ap (λ (r : RawReaderSeen). r.refused) after ∙ i.unrefused;
      shape = ap (λ (r : RawReaderSeen). r.shape) after ∙ i.shape ∙ sym c.in-Ok-Picture.ensures.same_shape;
      frame_shape = c.in-Ok-Picture.ensures.same_shape ∙ i.frame_shape;
      few = omega (arith, i.few, place, some);
      goes = subst (λ (k : ℕ). Goes (frame_of_two f) (splitting order f) (behind k (l.frames + 1)) (rest c.args.src.now) (rest c.next.new.src) (written c.args.out.now) out2) (sym place)
          (goes_more (frame_of_two f) (splitting order f) some (behind l.reader.place l.frames) (rest c.args.src.now) (rest l.src) (written c.args.out.now) out1 i.goes (rest c.next.new.src) p front out2 refl wrote);
      steady = c.in-Ok-Picture.ensures.cause ∙ i.steady;
      steady_out = c.in-Ok.ensures.cause ∙ i.steady_out;
    }

pub frames-smaller : goal.frames-smaller
frames-smaller g c = grind (arith, common_steps)
