-- A run over raw pictures comes to what its pictures give, one after another.
use Rattle.std.proofs.Common.{◌≡◌, ℕ, zero, suc, ◌+◌, ◌*◌, ◌/◌, ◌%◌, ◌<◌, cond, eqb, true, false, List, [], ◌∷◌, ◌++◌, length, drop, Option, None, Ok, Err, refl, sym, ap, ◌∙◌, arith, append_assoc}
use Rattle.std.proofs.lemmas.List.{length-drop}
use Rattle.slice_geometry.specs.Frames.{Frame}
use Rattle.picture_codec.specs.Samples.{PictureSamples}
use Rattle.raw_video.specs.RawText.{raw_text}
use Rattle.raw_video.specs.RawParse.{raw_length, RawFront, Shown, Over, LargeAt, CutAt, TooLong, raw_front, RawParse, ahead, parse_from, raw_texts, raw_parse}
use Rattle.run_theory.specs.Walk.{Answer, answer_from, answer_to, before, after_step}
use Rattle.run_theory.proofs.Walks.{answer_step}
use Rattle.field_weave.specs.declared.Order.{Order}
use Rattle.field_weave.specs.declared.weaver.WeaveStop.TheVariants.{HalfFrame}
use Rattle.field_weave.specs.Weaving.{frame_of_two, woven_frame, split, frames_of, fields_in}
use Rattle.raw_video.specs.PictureRuns.{PictureCommand, step_shown, step_by, picture_machine}
use Rattle.field_weave.specs.WeaveRuns.{WeaveEnd, FieldsSoFar, fields_end, weaving, splitting, weave_machine, split_machine}
use Rattle.field_weave.specs.WeaveAnswers.{woven_end, woven_answer, split_end, split_answer}
use Rattle.raw_video.proofs.ShownFronts.{shown_length}
use Rattle.raw_video.proofs.PictureTurns.{picture_laws}

module _ {W E : Type 0} (f : Frame) (command : PictureCommand W E) where
  -- what pictures leave, and their text
  abbrev own_over : W → List PictureSamples → W
  own_over own [] = own
  own_over own (p ∷ pictures) = own_over (command.next own p) pictures

  abbrev texts_over : W → List PictureSamples → List ℕ
  texts_over own [] = []
  texts_over own (p ∷ pictures) = command.text own p ++ texts_over (command.next own p) pictures

  abbrev place_over : ℕ → List PictureSamples → ℕ
  place_over place [] = place
  place_over place (p ∷ pictures) = place_over (place + raw_length f) pictures

  abbrev ending_by : ℕ → W → RawFront → E
  ending_by place own Over = command.finished place own
  ending_by place own other = command.refused other

  abbrev last_by : ℕ → W → RawFront → List ℕ
  last_by place own Over = command.last place own
  last_by place own other = []

  abbrev of_video : ℕ → W → RawParse → Answer E
  of_video place own video = record {
    ending = ending_by (place_over place video.pictures) (own_over own video.pictures) video.ending;
    text = texts_over own video.pictures;
    last = last_by (place_over place video.pictures) (own_over own video.pictures) video.ending;
  }

  module _ (some : 0 < raw_length f) (never : (place : ℕ) (own : W) → command.stops place own ≡ None) where
    answer_over : (turns place : ℕ) (own : W) (bytes : List ℕ) → length bytes < turns → answer_from (picture_machine f command) (record { place = place; own = own }) bytes ≡ of_video place own (parse_from f turns place bytes)
    answer_over zero place own bytes few = absurd (omega (arith, few))
    answer_over (suc turns) place own bytes few =
        answer_step (picture_machine f command) (picture_laws f command some) (record { place = place; own = own }) bytes ∙ by (λ p is. answer_over turns (place + raw_length f) (command.next own p) (drop (raw_length f) bytes) (omega (arith, few, some, length-drop (raw_length f) bytes, shown_length f place bytes p is)))
        (raw_front f place bytes) refl
      where
        others : PictureSamples → Type 0
        others p = answer_from (picture_machine f command) (record { place = place + raw_length f; own = command.next own p }) (drop (raw_length f) bytes)
            ≡ of_video (place + raw_length f) (command.next own p) (parse_from f turns (place + raw_length f) (drop (raw_length f) bytes))

        by : ((p : PictureSamples) → raw_front f place bytes ≡ Shown p → others p) → (front : RawFront) → raw_front f place bytes ≡ front
            → after_step (step_by f command (record { place = place; own = own }) front) (λ size left. answer_from (picture_machine f command) left (drop size bytes))
            ≡ of_video place own (ahead front (parse_from f turns (place + raw_length f) (drop (raw_length f) bytes)))
        by more (Shown p) is =
            ap (λ (stop : Option E). after_step (step_shown f command (record { place = place; own = own }) p stop) (λ size left. answer_from (picture_machine f command) left (drop size bytes))) (never place own)
            ∙ ap (before (command.text own p)) (more p is)
        by more Over is = refl
        by more (LargeAt at) is = refl
        by more (CutAt at) is = refl
        by more TooLong is = refl

-- the place behind pictures
place_is : {W E : Type 0} (f : Frame) (command : PictureCommand W E) (place : ℕ) (pictures : List PictureSamples) → place_over f command place pictures ≡ place + length pictures * raw_length f
place_is f command place [] = omega arith
place_is f command place (p ∷ pictures) = place_is f command (place + raw_length f) pictures ∙ sums place (length pictures) (raw_length f)
  where
    sums : (place n size : ℕ) → place + size + n * size ≡ place + suc n * size
    sums place n size = grind arith

abbrev done_with : ℕ → WeaveEnd
done_with n = Ok n

abbrev made_of : WeaveEnd → List ℕ → List ℕ → Answer WeaveEnd
made_of ending text last = record { ending = ending; text = text; last = last }

-- ---- weaving

abbrev begins_with : ℕ → FieldsSoFar
begins_with n = record { frames = n; first = None }

module _ (order : Order) (f : Frame) where
  woven_texts : (n : ℕ) (fields : List PictureSamples) → texts_over f (weaving order f) (begins_with n) fields ≡ raw_texts (frame_of_two f) (frames_of order f fields)
  woven_texts n [] = refl
  woven_texts n (first ∷ []) = refl
  woven_texts n (first ∷ second ∷ fields) = ap (λ (l : List ℕ). raw_text (frame_of_two f) (woven_frame order f first second) ++ l) (woven_texts (n + 1) fields)

  abbrev left_by : ℕ → List PictureSamples → FieldsSoFar
  left_by n fields = own_over f (weaving order f) (begins_with n) fields

  abbrev even_or : ℕ → ℕ → ℕ → WeaveEnd
  even_or n count place = cond (eqb (count % 2) 0) (Ok (n + count / 2)) (Err (HalfFrame place))

  ends : (n place : ℕ) (fields : List PictureSamples) → fields_end place (left_by n fields) (left_by n fields).first ≡ even_or n (length fields) place
  ends n place [] = let none : n ≡ n + 0 / 2 = omega arith in ap (λ (k : ℕ). done_with k) none
  ends n place (first ∷ []) = refl
  ends n place (first ∷ second ∷ fields) =
      let m = length fields in
      let odd : suc (suc m) % 2 ≡ m % 2 = omega arith in
      let half : n + 1 + m / 2 ≡ n + suc (suc m) / 2 = omega arith in
      ends (n + 1) place fields
      ∙ ap (λ (k : ℕ). cond (eqb k 0) (done_with (n + 1 + m / 2)) (Err (HalfFrame place))) (sym odd)
      ∙ ap (λ (k : ℕ). cond (eqb (suc (suc m) % 2) 0) (done_with k) (Err (HalfFrame place))) half

  woven_ends : (fields : List PictureSamples) (behind : RawFront) → ending_by f (weaving order f) (place_over f (weaving order f) 0 fields) (left_by 0 fields) behind ≡ woven_end f (length fields) behind
  woven_ends fields Over =
      let place : place_over f (weaving order f) 0 fields ≡ length fields * raw_length f = place_is f (weaving order f) 0 fields ∙ (let e : 0 + length fields * raw_length f ≡ length fields * raw_length f = omega arith in e) in
      let half : 0 + length fields / 2 ≡ length fields / 2 = omega arith in
      ends 0 (place_over f (weaving order f) 0 fields) fields
      ∙ ap (λ (k : ℕ). cond (eqb (length fields % 2) 0) (done_with (0 + length fields / 2)) (Err (HalfFrame k))) place
      ∙ ap (λ (k : ℕ). cond (eqb (length fields % 2) 0) (done_with k) (Err (HalfFrame (length fields * raw_length f)))) half
  woven_ends fields (Shown p) = refl
  woven_ends fields (LargeAt at) = refl
  woven_ends fields (CutAt at) = refl
  woven_ends fields TooLong = refl

  woven_last : (place : ℕ) (own : FieldsSoFar) (behind : RawFront) → last_by f (weaving order f) place own behind ≡ []
  woven_last place own Over = refl
  woven_last place own (Shown p) = refl
  woven_last place own (LargeAt at) = refl
  woven_last place own (CutAt at) = refl
  woven_last place own TooLong = refl

  pub weave_answer : (bytes : List ℕ) → 0 < raw_length f → answer_to (weave_machine order f) bytes ≡ woven_answer order f bytes
  weave_answer bytes some =
      let video = raw_parse f bytes in
      let w = weaving order f in
      answer_over f w some (λ place own. refl) (length bytes + 1) 0 (begins_with 0) bytes (omega arith)
      ∙ ap (λ (l : List ℕ). made_of (ending_by f w (place_over f w 0 video.pictures) (left_by 0 video.pictures) video.ending) l (last_by f w (place_over f w 0 video.pictures) (left_by 0 video.pictures) video.ending)) (woven_texts 0 video.pictures)
      ∙ ap (λ (e : WeaveEnd). made_of e (raw_texts (frame_of_two f) (frames_of order f video.pictures)) (last_by f w (place_over f w 0 video.pictures) (left_by 0 video.pictures) video.ending)) (woven_ends video.pictures video.ending)
      ∙ ap (made_of (woven_end f (length video.pictures) video.ending) (raw_texts (frame_of_two f) (frames_of order f video.pictures))) (woven_last (place_over f w 0 video.pictures) (left_by 0 video.pictures) video.ending)

  -- ---- splitting

  split_texts : (n : ℕ) (frames : List PictureSamples) → texts_over (frame_of_two f) (splitting order f) n frames ≡ raw_texts f (fields_in order f frames)
  split_texts n [] = refl
  split_texts n (frame ∷ frames) =
      let first = raw_text f (split order f false frame) in
      let second = raw_text f (split order f true frame) in
      ap (λ (l : List ℕ). (first ++ second) ++ l) (split_texts (n + 1) frames) ∙ append_assoc first second (raw_texts f (fields_in order f frames))

  counted : (n : ℕ) (frames : List PictureSamples) → own_over (frame_of_two f) (splitting order f) n frames ≡ n + length frames
  counted n [] = omega arith
  counted n (frame ∷ frames) = counted (n + 1) frames ∙ (let e : n + 1 + length frames ≡ n + suc (length frames) = omega arith in e)

  split_ends : (place n count : ℕ) (behind : RawFront) → n ≡ count → ending_by (frame_of_two f) (splitting order f) place n behind ≡ split_end count behind
  split_ends place n count Over is = ap (λ (k : ℕ). done_with k) is
  split_ends place n count (Shown p) is = refl
  split_ends place n count (LargeAt at) is = refl
  split_ends place n count (CutAt at) is = refl
  split_ends place n count TooLong is = refl

  split_last : (place n : ℕ) (behind : RawFront) → last_by (frame_of_two f) (splitting order f) place n behind ≡ []
  split_last place n Over = refl
  split_last place n (Shown p) = refl
  split_last place n (LargeAt at) = refl
  split_last place n (CutAt at) = refl
  split_last place n TooLong = refl

  pub split_answers : (bytes : List ℕ) → 0 < raw_length (frame_of_two f) → answer_to (split_machine order f) bytes ≡ split_answer order f bytes
  split_answers bytes some =
      let g = frame_of_two f in
      let video = raw_parse g bytes in
      let w = splitting order f in
      let place = place_over g w 0 video.pictures in
      let n = own_over g w 0 video.pictures in
      let count : n ≡ length video.pictures = counted 0 video.pictures ∙ (let e : 0 + length video.pictures ≡ length video.pictures = omega arith in e) in
      answer_over g w some (λ place own. refl) (length bytes + 1) 0 0 bytes (omega arith)
      ∙ ap (λ (l : List ℕ). made_of (ending_by g w place n video.ending) l (last_by g w place n video.ending)) (split_texts 0 video.pictures)
      ∙ ap (λ (e : WeaveEnd). made_of e (raw_texts f (fields_in order f video.pictures)) (last_by g w place n video.ending)) (split_ends place n (length video.pictures) video.ending count)
      ∙ ap (made_of (split_end (length video.pictures) video.ending) (raw_texts f (fields_in order f video.pictures))) (split_last place n video.ending)
