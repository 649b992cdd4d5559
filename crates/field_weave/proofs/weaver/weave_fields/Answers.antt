use Rattle.std.proofs.Common.{◌≡◌, ℕ, ◌+◌, ◌≤◌, not, cond, Bool, true, false, Some, None, Ok, Err, refl, sym, ap, subst, ◌∙◌, arith}
use Rattle.std.specs.Io.KnownBytes.{Appends}
use Rattle.vc2_io.specs.Outside.{GrewShort}
use Rattle.vc2_io.proofs.Known.{Appends-none}
use Rattle.slice_geometry.specs.declared.PictureShape.{PictureShape}
use Rattle.slice_geometry.specs.Frames.{Frame, frame_of}
use Rattle.picture_codec.specs.Samples.{PictureSamples}
use Rattle.raw_video.specs.RawParse.{raw_length}
use Rattle.raw_video.specs.Reading.{RawReaderSeen, ReadsFront, reader_after}
use Rattle.raw_video.specs.declared.reader.RawStep.{RawStep}
use Rattle.raw_video.specs.declared.reader.RawStep.TheVariants.{Picture, End}
use Rattle.field_weave.specs.declared.weaver.WeaveStop.{WeaveStop}
use Rattle.field_weave.specs.declared.weaver.WeaveStop.TheVariants.{HalfFrame}
use Rattle.raw_video.specs.PictureRuns.{BehindPictures, Goes}
use Rattle.field_weave.specs.WeaveRuns.{FieldsSoFar, weaving, weave_machine, field_more, field_text, fields_end, kept_first, Weaves}
use Rattle.raw_video.proofs.PictureTurns.{some_raw, goes_first, goes_more}
use Rattle.field_weave.proofs.Weaves.{weaving_ends, weaves_refused, weaves_ended, weaves_half, weaves_short}
use Rattle.field_weave.proofs.weaver.weave_fields.Goals.{then-begun-2, else-begun-2}
use Rattle.field_weave.proofs.weaver.weave_fields.Goals as goal

-- what the fields so far leave, by the frame that they are put in
abbrev own_of : ℕ → Bool → PictureSamples → FieldsSoFar
own_of frames begun first = record { frames = frames; first = kept_first begun first }

abbrev behind : ℕ → ℕ → Bool → PictureSamples → BehindPictures FieldsSoFar
behind place frames begun first = record { place = place; own = own_of frames begun first }

half_end : (place frames : ℕ) (begun : Bool) (first : PictureSamples) → begun ≡ true → fields_end place (own_of frames begun first) (kept_first begun first) ≡ Err (HalfFrame place)
half_end place frames false first t = absurd cc
half_end place frames true first t = refl

whole_end : (place frames : ℕ) (begun : Bool) (first : PictureSamples) → begun ≡ false → fields_end place (own_of frames begun first) (kept_first begun first) ≡ Ok frames
whole_end place frames false first t = refl
whole_end place frames true first t = absurd cc

-- a field that begins a frame is the one that is kept
own_next : (frames : ℕ) (begun : Bool) (field first kept : PictureSamples) → (begun ≡ false → kept ≡ field) → field_more (own_of frames begun first) field (kept_first begun first) ≡ own_of (cond begun (frames + 1) frames) (not begun) kept
own_next frames true field first kept is = refl
own_next frames false field first kept is = ap (λ (p : PictureSamples). let own : FieldsSoFar = record { frames = frames; first = Some p } in own) (sym (is refl))

pub fields-init : goal.fields-init
fields-init g c =
    let rest = g.S.Source.rest c.args.src.now in
    let out = g.K.Sink.written c.args.out.now in
    let order = c.args.order in
    let f = frame_of c.args.field.now.shape in
    record {
      unrefused = ap (λ (r : RawReaderSeen). r.refused) c.new-reader.ensures;
      shape = ap (λ (r : RawReaderSeen). r.shape) c.new-reader.ensures ∙ c.shape.ensures;
      field_shape = refl;
      first_shape = refl;
      few = omega arith;
      goes = subst (λ (k : ℕ). Goes f (weaving order f) (record { place = k; own = record { frames = 0; first = None } }) rest rest out out) (sym (ap (λ (r : RawReaderSeen). r.place) c.new-reader.ensures))
          (goes_first f (weaving order f) (some_raw c.args.field.now.shape) rest out out (Appends-none out out refl));
      steady = refl;
      steady_out = refl;
    }

pub returns-then-begun-clause-weaves : goal.returns-then-begun-clause-weaves
returns-then-begun-clause-weaves g c =
    let l = c.fields in
    let i = l.invariant in
    let order = c.args.order in
    let f = frame_of c.args.field.now.shape in
    let rest = g.S.Source.rest in
    let written = g.K.Sink.written in
    let faults = g.S.Source.faults in
    let out_faults = g.K.Sink.faults in
    let p = c.next.new.picture.samples in
    let shape = ap (λ (s : PictureShape). frame_of s) (i.shape ∙ i.field_shape) in
    let front = subst (λ (h : Frame). ReadsFront h l.reader.place (rest l.src) (rest c.next.new.src) p (Ok End)) shape
    (subst (λ (s : RawStep). ReadsFront (frame_of l.reader.shape) l.reader.place (rest l.src) (rest c.next.new.src) p (Ok s)) c.in-Ok-End.field-0-is c.in-Ok-End.ensures.front) in
    subst (λ (k : ℕ). Weaves (weave_machine order f) (rest c.args.src.now) (rest c.next.new.src) (written c.args.out.now) (written l.out) (faults c.args.src.now) (faults c.next.new.src) (out_faults c.args.out.now) (out_faults l.out) (Err (HalfFrame k)))
    (sym c.place-place.ensures.value)
    (weaves_half f (weaving order f) (some_raw c.args.field.now.shape) refl (weaving_ends order f) (behind l.reader.place l.frames l.begun l.first.samples) (rest c.args.src.now) (rest l.src) (written c.args.out.now) (written l.out) i.goes
    (faults c.args.src.now) (faults l.src) (faults c.next.new.src) (out_faults c.args.out.now) (out_faults l.out) i.steady i.steady_out (rest c.next.new.src) p l.reader.place front
    (half_end l.reader.place l.frames l.begun l.first.samples c.if-begun.true) refl c.in-Ok-End.ensures.cause)

pub returns-in-Ok-End-clause-weaves : goal.returns-in-Ok-End-clause-weaves
returns-in-Ok-End-clause-weaves g c =
    let l = c.fields in
    let i = l.invariant in
    let order = c.args.order in
    let f = frame_of c.args.field.now.shape in
    let rest = g.S.Source.rest in
    let written = g.K.Sink.written in
    let faults = g.S.Source.faults in
    let out_faults = g.K.Sink.faults in
    let p = c.next.new.picture.samples in
    let shape = ap (λ (s : PictureShape). frame_of s) (i.shape ∙ i.field_shape) in
    let front = subst (λ (h : Frame). ReadsFront h l.reader.place (rest l.src) (rest c.next.new.src) p (Ok End)) shape
    (subst (λ (s : RawStep). ReadsFront (frame_of l.reader.shape) l.reader.place (rest l.src) (rest c.next.new.src) p (Ok s)) c.in-Ok-End.field-0-is c.in-Ok-End.ensures.front) in
    weaves_ended f (weaving order f) (some_raw c.args.field.now.shape) refl (weaving_ends order f) (behind l.reader.place l.frames l.begun l.first.samples) (rest c.args.src.now) (rest l.src) (written c.args.out.now) (written l.out) i.goes
    (faults c.args.src.now) (faults l.src) (faults c.next.new.src) (out_faults c.args.out.now) (out_faults l.out) i.steady i.steady_out (rest c.next.new.src) p l.frames front
    (whole_end l.reader.place l.frames l.begun l.first.samples c.if-begun.false) refl c.in-Ok-End.ensures.cause

pub returns-in-Err-clause-weaves : goal.returns-in-Err-clause-weaves
returns-in-Err-clause-weaves g c =
    let l = c.fields in
    let i = l.invariant in
    let order = c.args.order in
    let f = frame_of c.args.field.now.shape in
    let rest = g.S.Source.rest in
    let written = g.K.Sink.written in
    let faults = g.S.Source.faults in
    let out_faults = g.K.Sink.faults in
    let p = c.next.new.picture.samples in
    let shape = ap (λ (s : PictureShape). frame_of s) (i.shape ∙ i.field_shape) in
    let front = subst (λ (h : Frame). ReadsFront h l.reader.place (rest l.src) (rest c.next.new.src) p (Err c.in-Err.fault)) shape c.in-Err.ensures.front in
    subst (λ (s : WeaveStop). Weaves (weave_machine order f) (rest c.args.src.now) (rest c.next.new.src) (written c.args.out.now) (written l.out) (faults c.args.src.now) (faults c.next.new.src) (out_faults c.args.out.now) (out_faults l.out) (Err s))
    (sym c.stop_of.ensures)
    (weaves_refused f (weaving order f) (some_raw c.args.field.now.shape) refl (weaving_ends order f) (behind l.reader.place l.frames l.begun l.first.samples) (rest c.args.src.now) (rest l.src) (written c.args.out.now) (written l.out) i.goes
    (faults c.args.src.now) (faults l.src) (faults c.next.new.src) (out_faults c.args.out.now) (out_faults l.out) i.steady i.steady_out (rest c.next.new.src) p c.in-Err.fault front c.in-Err.ensures.cause)

pub returns-in-Err-keep_or_write-clause-weaves : goal.returns-in-Err-keep_or_write-clause-weaves
returns-in-Err-keep_or_write-clause-weaves g c =
    let l = c.fields in
    let i = l.invariant in
    let order = c.args.order in
    let f = frame_of c.args.field.now.shape in
    let rest = g.S.Source.rest in
    let written = g.K.Sink.written in
    let faults = g.S.Source.faults in
    let out_faults = g.K.Sink.faults in
    let p = c.next.new.picture.samples in
    let shape = ap (λ (s : PictureShape). frame_of s) (i.shape ∙ i.field_shape) in
    let is : frame_of c.next.new.picture.shape ≡ f = ap (λ (s : PictureShape). frame_of s) (c.in-Ok-Picture.ensures.same_shape ∙ i.field_shape) in
    let front = subst (λ (h : Frame). ReadsFront h l.reader.place (rest l.src) (rest c.next.new.src) p (Ok Picture)) shape
    (subst (λ (s : RawStep). ReadsFront (frame_of l.reader.shape) l.reader.place (rest l.src) (rest c.next.new.src) p (Ok s)) c.in-Ok-Picture.field-0-is c.in-Ok-Picture.ensures.front) in
    let short = subst (λ (h : Frame). GrewShort (written l.out) (written c.keep_or_write.new.out) (field_text order h p (kept_first l.begun l.first.samples))) is c.in-Err-keep_or_write.ensures.err in
    weaves_short f (weaving order f) (some_raw c.args.field.now.shape) refl (weaving_ends order f) (behind l.reader.place l.frames l.begun l.first.samples) (rest c.args.src.now) (rest l.src) (written c.args.out.now) (written l.out) i.goes
    (faults c.args.src.now) (faults l.src) (faults c.next.new.src) (out_faults c.args.out.now) (out_faults l.out) i.steady i.steady_out (rest c.next.new.src) p (written c.keep_or_write.new.out) (out_faults c.keep_or_write.new.out) front refl short
    c.in-Ok-Picture.ensures.cause c.in-Err-keep_or_write.ensures.cause

pub fields-preserved : goal.fields-preserved
fields-preserved g c =
    let l = c.fields in
    let i = l.invariant in
    let order = c.args.order in
    let f = frame_of c.args.field.now.shape in
    let rest = g.S.Source.rest in
    let written = g.K.Sink.written in
    let p = c.next.new.picture.samples in
    let out1 = written l.out in
    let out2 = written c.keep_or_write.new.out in
    let shape = ap (λ (s : PictureShape). frame_of s) (i.shape ∙ i.field_shape) in
    let is : frame_of c.next.new.picture.shape ≡ f = ap (λ (s : PictureShape). frame_of s) (c.in-Ok-Picture.ensures.same_shape ∙ i.field_shape) in
    let after : c.next.new.self ≡ reader_after l.reader (Ok Picture) = subst (λ (s : RawStep). c.next.new.self ≡ reader_after l.reader (Ok s)) c.in-Ok-Picture.field-0-is c.in-Ok-Picture.ensures.after in
    let place : c.next.new.self.place ≡ l.reader.place + raw_length f = ap (λ (r : RawReaderSeen). r.place) after ∙ ap (λ (h : Frame). l.reader.place + raw_length h) shape in
    let front = subst (λ (h : Frame). ReadsFront h l.reader.place (rest l.src) (rest c.next.new.src) p (Ok Picture)) shape
    (subst (λ (s : RawStep). ReadsFront (frame_of l.reader.shape) l.reader.place (rest l.src) (rest c.next.new.src) p (Ok s)) c.in-Ok-Picture.field-0-is c.in-Ok-Picture.ensures.front) in
    let wrote = subst (λ (h : Frame). Appends out1 out2 (field_text order h p (kept_first l.begun l.first.samples))) is c.in-Ok.ensures.ok in
    let some = some_raw c.args.field.now.shape in
    let count : c.if-begun-2.frames ≡ cond l.begun (l.frames + 1) l.frames = elim c.if-begun-2.branch [
      | then-begun-2 w ↦ w.frames-is ∙ sym (ap (λ (b : Bool). cond b (l.frames + 1) l.frames) w.if-begun-2.true)
      | else-begun-2 w ↦ w.frames-is ∙ sym (ap (λ (b : Bool). cond b (l.frames + 1) l.frames) w.if-begun-2.false)
    ] in
    let own : field_more (own_of l.frames l.begun l.first.samples) p (kept_first l.begun l.first.samples) ≡ own_of c.if-begun-2.frames (not l.begun) c.keep_or_write.new.first.samples =
    own_next l.frames l.begun p l.first.samples c.keep_or_write.new.first.samples c.in-Ok.ensures.kept
    ∙ ap (λ (n : ℕ). own_of n (not l.begun) c.keep_or_write.new.first.samples) (sym count) in
    let most : (b : Bool) → cond b (l.frames + 1) l.frames ≤ l.frames + 1 = most_of l.frames in
    record {
      unrefused = ap (λ (r : RawReaderSeen). r.refused) after ∙ i.unrefused;
      shape = ap (λ (r : RawReaderSeen). r.shape) after ∙ i.shape ∙ sym c.in-Ok-Picture.ensures.same_shape ∙ sym c.in-Ok.ensures.field_shape;
      field_shape = c.in-Ok.ensures.field_shape ∙ c.in-Ok-Picture.ensures.same_shape ∙ i.field_shape;
      first_shape = c.in-Ok.ensures.first_shape ∙ i.first_shape;
      few = omega (arith, count, most l.begun, i.few, place, some);
      goes = subst (λ (k : ℕ). Goes f (weaving order f) (record { place = k; own = own_of c.if-begun-2.frames (not l.begun) c.keep_or_write.new.first.samples }) (rest c.args.src.now) (rest c.next.new.src) (written c.args.out.now) out2) (sym place)
          (subst (λ (o : FieldsSoFar). Goes f (weaving order f) (record { place = l.reader.place + raw_length f; own = o }) (rest c.args.src.now) (rest c.next.new.src) (written c.args.out.now) out2) own
          (goes_more f (weaving order f) some (behind l.reader.place l.frames l.begun l.first.samples) (rest c.args.src.now) (rest l.src) (written c.args.out.now) out1 i.goes (rest c.next.new.src) p front out2 refl wrote));
      steady = c.in-Ok-Picture.ensures.cause ∙ i.steady;
      steady_out = c.in-Ok.ensures.cause ∙ i.steady_out;
    }
  where
    most_of : (n : ℕ) (b : Bool) → cond b (n + 1) n ≤ n + 1
    most_of n true = omega arith
    most_of n false = omega arith
