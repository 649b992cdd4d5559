-- Whole pictures are encoded to their stream.
use Rattle.std.proofs.Common.{◌≡◌, ℕ, suc, ◌+◌, ◌*◌, ◌%◌, ◌^◌, ◌<◌, ◌≤◌, cond, eqb, Bool, true, false, List, [], ◌∷◌, ◌++◌, length, map, drop, Some, None, refl, sym, ap, subst, ◌∙◌, arith, append_assoc, ne_eqb, eqb-true}
use Rattle.std.specs.Prelude.{◌&&◌}
use Rattle.std.specs.List.{AllByRecursion}
use Rattle.std.proofs.lemmas.List.{length-append}
use Rattle.std.proofs.Math.Seq.{drop-append_seam}
use Rattle.sequence_header.specs.declared.parts.HeaderParts.{HeaderParts}
use Rattle.sequence_header.specs.Coding.{IsShapeOf, luma_size, colour_size, luma_depth, colour_depth}
use Rattle.sequence_header.specs.Checking.{PassesRules}
use Rattle.sequence_header.proofs.Shapes.{luma_fits, colour_fits, depth_fits, excursions}
use Rattle.slice_geometry.specs.declared.PictureShape.{PictureShape}
use Rattle.slice_geometry.specs.Frames.{Frame}
use Rattle.slice_geometry.specs.Slicing.{slice_count}
use Rattle.transform_params.specs.ParameterFields.{unit_length, AreLawfulParams}
use Rattle.picture_codec.specs.Samples.{PictureSamples}
use Rattle.picture_codec.specs.Encoding.{slices_of}
use Rattle.raw_video.specs.RawText.{raw_text}
use Rattle.raw_video.specs.RawParse.{raw_length, IsOfFrame, RawFront, raw_texts}
use Rattle.raw_video.specs.PictureRuns.{BehindPictures, step_shown, step_by}
use Rattle.raw_video.proofs.PictureTurns.{some_raw}
use Rattle.raw_video.proofs.Fronts.{front_over}
use Rattle.raw_video.proofs.ReadBack.{length_raw, picture_back}
use Rattle.run_theory.specs.Walk.{Answer, answer_from, answer_to, after_step, before}
use Rattle.run_theory.proofs.Walks.{answer_step}
use Rattle.stream_rows.specs.declared.reason.Reason.TheVariants.{StreamTooLong}
use Rattle.stream_rows.specs.Streams.{limit, frame_under}
use Rattle.stream_writer.specs.EncodedStream.{begins_at, header_length, header_unit, end_unit, number_after, units_with, units_behind}
use Rattle.stream_writer.proofs.WrittenShapes.{plain_length}
use Rattle.stream_rows.proofs.Frames.{frame_is}
use Rattle.channel_schedule.specs.declared.schedule.Schedule.{Schedule}
use Rattle.vc2_words.specs.Settings.{Asked}
use Rattle.vc2_cli.specs.declared.status.Ending.{Ending}
use Rattle.vc2_cli.specs.declared.status.Note.TheVariants.{Encoded}
use Rattle.vc2_cli.specs.declared.status.Ending.TheVariants.{Done}
use Rattle.vc2_cli.specs.Encode.{written_under, raw_size, stream_place, previous_at, number_of_next, units_at, has_room, is_half, refused_at, shapes_at, ended_plan, ended_at, last_text, encoding, encode_machine}
use Rattle.vc2_cli.specs.WholePictures.{raw_input, stream_of}
use Rattle.vc2_cli.specs.EncodeReply.{MayBeWritten, encoded_reply, AreEncoded}
use Rattle.vc2_cli.specs.Reply.{reply_of}
use Rattle.vc2_cli.proofs.EncodeTurns.{encode_laws}
use Rattle.vc2_cli.proofs.Behind.{previous_next, number_next, room_before}

-- the shape of a header's pictures
abbrev pub header_shape : (p : HeaderParts) → PassesRules p → PictureShape
header_shape p q = record {
  luma = luma_size p;
  colour = colour_size p;
  luma_depth = luma_depth p;
  colour_depth = colour_depth p;
  luma_fits = luma_fits p q;
  colour_fits = colour_fits p q;
  luma_depth_fits = depth_fits _ (excursions p.signal q.signal).some_luma (excursions p.signal q.signal).luma;
  colour_depth_fits = depth_fits _ (excursions p.signal q.signal).some_colour (excursions p.signal q.signal).colour;
}

pub header_has : (p : HeaderParts) (q : PassesRules p) → IsShapeOf (header_shape p q) p
header_has p q = record { luma = refl; colour = refl; luma_depth = refl; colour_depth = refl }

pub some_size : (s : Asked) → PassesRules s.parts → 0 < raw_size s
some_size s q = subst (λ (f : Frame). 0 < raw_length f) (frame_is s.parts (header_shape s.parts q) (header_has s.parts q)) (some_raw (header_shape s.parts q))

-- a picture has a slice
pub some_slices : (s : Asked) → AreLawfulParams s.params → 1 ≤ slice_count s.params.slicing
some_slices s f = product s.params.slicing.slices_x s.params.slicing.slices_y f.allowed.slices.some_across f.allowed.slices.some_down
  where
    product : (x y : ℕ) → 1 ≤ x → 1 ≤ y → 1 ≤ x * y
    product x y a b = grind arith

-- ---- the walk over whole pictures

module _ (s : Asked) (q : PassesRules s.parts) where
  few : (frame_under s.parts).luma_depth ≤ 16
  few = (header_shape s.parts q).luma_depth_fits.most

  fewer : (frame_under s.parts).colour_depth ≤ 16
  fewer = (header_shape s.parts q).colour_depth_fits.most

  -- what is written of the pictures from picture n on
  abbrev pub texts : ℕ → List PictureSamples → List ℕ
  texts n [] = []
  texts n (p ∷ ps) = units_at s n (slices_of (frame_under s.parts) s.params p) ++ texts (suc n) ps

  abbrev answer : ℕ → ℕ → List PictureSamples → Answer Ending
  answer n m ps = record { ending = Done (Encoded (ended_plan s (shapes_at s m) (stream_place s m))); text = texts n ps; last = end_unit (previous_at s m) }

  abbrev at : (place n : ℕ) → BehindPictures ℕ
  at place n = record { place = place; own = n }

  closed : (half : Bool) (place previous : ℕ) (schedule : Schedule) → half ≡ false
      → (let a : Answer Ending = record { ending = ended_at half place schedule; text = []; last = last_text half previous } in a) ≡ record { ending = Done (Encoded schedule); text = []; last = end_unit previous }
  closed true place previous schedule e = absurd cc
  closed false place previous schedule e = refl

  with_room : (place n : ℕ) (p : PictureSamples) (room : Bool) (ending : Ending) (next : ℕ → BehindPictures ℕ → Answer Ending) → room ≡ true
      → after_step (step_shown (frame_under s.parts) (encoding s) (at place n) p (cond room None (Some ending))) next
      ≡ before (units_at s n (slices_of (frame_under s.parts) s.params p)) (next (raw_size s) (at (place + raw_size s) (n + 1)))
  with_room place n p true ending next e = refl
  with_room place n p false ending next e = absurd cc

  pub answered : (place n m : ℕ) (ps : List PictureSamples) → m ≡ n + length ps → AllByRecursion (IsOfFrame (frame_under s.parts)) ps → is_half s.parts.coding m ≡ false → place + length (raw_texts (frame_under s.parts) ps) ≤ 2 ^ 40
      → stream_place s m + 13 ≤ limit → answer_from (encode_machine s) (at place n) (raw_texts (frame_under s.parts) ps) ≡ answer n m ps
  answered place n m [] e each whole inside fits =
      let go_on = λ (size : ℕ) (left : BehindPictures ℕ). answer_from (encode_machine s) left (drop size []) in
      let here : n ≡ m = omega (arith, e) in
      answer_step (encode_machine s) (encode_laws s (some_size s q)) (at place n) []
      ∙ ap (λ (front : RawFront). after_step (step_by (frame_under s.parts) (encoding s) (at place n) front) go_on) (front_over (frame_under s.parts) place (some_size s q))
      ∙ closed (is_half s.parts.coding n) place (previous_at s n) (ended_plan s (shapes_at s n) (stream_place s n)) (ap (is_half s.parts.coding) here ∙ whole)
      ∙ ap (λ (k : ℕ). answer n k []) here
  answered place n m (p ∷ ps) e each whole inside fits =
      let g = frame_under s.parts in
      let text = raw_text g p in
      let rest = raw_texts g ps in
      let go_on = λ (size : ℕ) (left : BehindPictures ℕ). answer_from (encode_machine s) left (drop size (text ++ rest)) in
      let unit = units_at s n (slices_of g s.params p) in
      let long : length text ≡ raw_size s = length_raw g p each.0 in
      let both : length (text ++ rest) ≡ length text + length rest = length-append text rest in
      let dropped : drop (raw_size s) (text ++ rest) ≡ rest = ap (λ (k : ℕ). drop k (text ++ rest)) (sym long) ∙ drop-append_seam text rest in
      let next : n + 1 ≡ suc n = omega arith in
      answer_step (encode_machine s) (encode_laws s (some_size s q)) (at place n) (text ++ rest)
      ∙ ap (λ (front : RawFront). after_step (step_by g (encoding s) (at place n) front) go_on) (picture_back g p each.0 few fewer place rest (omega (arith, inside, both, long)))
      ∙ with_room place n p (has_room s n) (refused_at place StreamTooLong) go_on (room_before s n m (omega (arith, e)) fits)
      ∙ ap (before unit)
      (ap (answer_from (encode_machine s) (at (place + raw_size s) (n + 1))) dropped
      ∙ ap (λ (k : ℕ). answer_from (encode_machine s) (at (place + raw_size s) k) rest) next
      ∙ answered (place + raw_size s) (suc n) m ps (omega (arith, e)) each.1 whole (omega (arith, inside, both, long)) fits)

  -- what is written is the units behind the first
  pub units_are : (n m previous : ℕ) (ps : List PictureSamples) → m ≡ n + length ps → previous_at s n ≡ previous
      → texts n ps ++ end_unit (previous_at s m) ≡ units_behind (written_under s) n previous (number_of_next s n) (map (slices_of (frame_under s.parts) s.params) ps)
  units_are n m previous [] e is = let here : m ≡ n = omega (arith, e) in ap (λ (k : ℕ). end_unit (previous_at s k)) here ∙ ap end_unit is
  units_are n m previous (p ∷ ps) e is =
      let slices = slices_of (frame_under s.parts) s.params p in
      let others = map (slices_of (frame_under s.parts) s.params) ps in
      let rest = texts (suc n) ps ++ end_unit (previous_at s m) in
      let unit = units_with s.parts s.params (begins_at s.group n) previous (number_of_next s n) slices in
      let next : suc n ≡ n + 1 = omega arith in
      append_assoc (units_at s n slices) (texts (suc n) ps) (end_unit (previous_at s m))
      ∙ ap (λ (k : ℕ). units_with s.parts s.params (begins_at s.group n) k (number_of_next s n) slices ++ rest) is
      ∙ ap (λ (l : List ℕ). unit ++ l) (units_are (suc n) m (unit_length s.params) ps (omega (arith, e)) (previous_next s n))
      ∙ ap (λ (k : ℕ). unit ++ units_behind (written_under s) (suc n) (unit_length s.params) k others) (sym (number_next s n))
      ∙ ap (λ (k : ℕ). unit ++ units_behind (written_under s) k (unit_length s.params) (number_after (number_of_next s n)) others) next

  whole_frames : (coding n : ℕ) → (coding ≡ 1 → n % 2 ≡ 0) → is_half coding n ≡ false
  whole_frames coding n even = by (eqb coding 1) refl
    where
      by : (fields : Bool) → eqb coding 1 ≡ fields → (fields && eqb (n % 2) 1) ≡ false
      by false t = refl
      by true t = ne_eqb (n % 2) 1 (λ e. omega (arith, e, even (eqb-true coding 1 t)))

  pub out_is : (pictures : List PictureSamples) → s.first < 2 ^ 32 → (header_unit s.parts ++ texts 0 pictures) ++ end_unit (previous_at s (length pictures)) ≡ stream_of s pictures
  out_is pictures fits =
      append_assoc (header_unit s.parts) (texts 0 pictures) (end_unit (previous_at s (length pictures)))
      ∙ ap (λ (l : List ℕ). header_unit s.parts ++ l) (units_are 0 (length pictures) (header_length s.parts) pictures (omega arith) (plain_length 0 (header_length s.parts)))
      ∙ ap (λ (k : ℕ). header_unit s.parts ++ units_behind (written_under s) 0 (header_length s.parts) k (map (slices_of (frame_under s.parts) s.params) pictures)) (omega (arith, fits))

  pub encoded_all : (pictures : List PictureSamples) → s.first < 2 ^ 32 → MayBeWritten s pictures → reply_of [] (answer_to (encode_machine s) (raw_input s pictures)) ≡ encoded_reply s pictures
  encoded_all pictures fits m =
      ap (λ (a : Answer Ending). reply_of [] (before (header_unit s.parts) a)) (answered 0 0 (length pictures) pictures (omega arith) m.each (whole_frames s.parts.coding (length pictures) m.even) (omega (arith, m.raw)) m.stream)
      ∙ ap (λ (l : List ℕ). record (encoded_reply s pictures) { out = l }) (out_is pictures fits)

pub are_encoded : (s : Asked) (pictures : List PictureSamples) → AreEncoded s pictures
are_encoded s pictures settings m = encoded_all s settings.lawful.header.passes pictures settings.lawful.first m
