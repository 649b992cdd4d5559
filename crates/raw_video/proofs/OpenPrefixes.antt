-- A run over raw video that is open stays open of fewer bytes.
use Rattle.std.proofs.Common.{◌≡◌, ℕ, zero, suc, ◌+◌, ◌-◌, ◌*◌, ◌^◌, ◌<◌, ◌≤◌, cond, ltb, eqb, Bool, true, false, List, [], ◌∷◌, ◌++◌, length, take, drop, Option, Some, None, Result, refl, sym, ap, subst, ◌∙◌, arith, append-nil, append_assoc}
use Rattle.std.proofs.lemmas.Bool.{lt-ltb, ltb-true, le-ltb, ne_eqb}
use Rattle.std.proofs.lemmas.List.{drop-append-le, take-append-le, take-append-drop, take_all, length-append, length-take, length-drop}
use Rattle.run_theory.specs.Walk.{Machine, Step, Ends, Whole, Answer, after_step, before, IsMachine, SoFar, answer_from, answer_to, all_but}
use Rattle.run_theory.proofs.Walks.{answer_step}
use Rattle.std.specs.Io.KnownBytes.{Consumes}
use Rattle.vc2_io.proofs.Known.{Consumes-none, Consumes-then}
use Rattle.slice_geometry.specs.Frames.{Frame}
use Rattle.picture_codec.specs.Samples.{PictureSamples}
use Rattle.raw_video.specs.Reading.{IsSoon, ReadsFront}
use Rattle.raw_video.specs.declared.reader.RawStep.{RawStep}
use Rattle.raw_video.specs.declared.reader.RawFault.{RawFault}
use Rattle.raw_video.specs.PictureRuns.{Goes}
use Rattle.raw_video.proofs.PictureTurns.{picture_laws}
use Rattle.raw_video.specs.RawText.{is_wide}
use Rattle.raw_video.specs.RawParse.{sample_size, raw_length, samples_in, sample_bounds, first_large, later, picture_from, RawFront, Shown, Over, LargeAt, CutAt, TooLong, front_of, raw_front}
use Rattle.raw_video.specs.PictureRuns.{PictureCommand, BehindPictures, step_shown, step_by, picture_machine}
use Rattle.raw_video.specs.PictureSoon.{HasOpenEndings, PicturesSoon}
use Rattle.raw_video.proofs.ShownFronts.{take_more, shown_length, shown_stays}
use Rattle.raw_video.proofs.Fronts.{samples_front}

some_later : (b : Bool) (r s : Option ℕ) (k : ℕ) → ((j : ℕ) → r ≡ Some j → s ≡ Some j) → cond b (later r) (Some 0) ≡ Some k → cond b (later s) (Some 0) ≡ Some k
some_later true None s k h e = absurd cc
some_later true (Some j) s k h e = ap later (h j refl) ∙ e
some_later false r s k h e = e

large_kept : (bounds vs ws : List ℕ) (k : ℕ) → first_large bounds vs ≡ Some k → first_large bounds (vs ++ ws) ≡ Some k
large_kept [] vs ws k h = absurd cc
large_kept (b ∷ bounds) [] ws k h = absurd cc
large_kept (b ∷ bounds) (v ∷ vs) ws k h = some_later (ltb v b) (first_large bounds vs) (first_large bounds (vs ++ ws)) k (λ j e. large_kept bounds vs ws j e) h

-- what was taken of the next picture, behind whole ones
record IsInPicture (f : Frame) (place : ℕ) (taken : List ℕ) : Type 0 where
  most : length taken ≤ raw_length f
  limit : place + length taken ≤ 2 ^ 40 + 1
  within : place ≤ 2 ^ 40
  soon : IsSoon (is_wide f) (sample_bounds f) taken

-- ---- a refusal that stands whatever follows

-- of fewer bytes no other sample is too large
none_before : (wide : Bool) (bounds first then : List ℕ) → first_large bounds (samples_in wide (first ++ then)) ≡ None → first_large bounds (samples_in wide first) ≡ None
none_before wide bounds first then none = by (first_large bounds (samples_in wide first)) refl
  where
    by : (o : Option ℕ) → first_large bounds (samples_in wide first) ≡ o → o ≡ None
    by None e = refl
    by (Some k) e =
        let r = samples_front wide first then in
        let there : Some k ≡ None = sym (large_kept bounds (samples_in wide first) r.0 k e) ∙ ap (first_large bounds) (sym r.1) ∙ none in
        absurd cc

module _ (f : Frame) (place : ℕ) where
  abbrev there_of : List ℕ → List ℕ
  there_of bytes = take (raw_length f) (take (2 ^ 40 - place) bytes)

  abbrev large_of : List ℕ → Option ℕ
  large_of there = first_large (sample_bounds f) (samples_in (is_wide f) there)

  -- what is there of more bytes begins with what is there of these
  there_more : (bytes more : List ℕ) → (rest : List ℕ) × (there_of (bytes ++ more) ≡ there_of bytes ++ rest)
  there_more bytes more =
      let t = take_more (2 ^ 40 - place) bytes more in
      let u = take_more (raw_length f) (take (2 ^ 40 - place) bytes) t.0 in
      (u.0, ap (take (raw_length f)) t.1 ∙ u.1)

  -- a sample that is too large was found
  large_there : (bytes there : List ℕ) (large : Option ℕ) (at : ℕ) → front_of f place bytes there large ≡ LargeAt at → (k : ℕ) × (large ≡ Some k) × (at ≡ place + sample_size (is_wide f) * k)
  large_there bytes there (Some k) at h = (k, refl, let same : LargeAt (place + sample_size (is_wide f) * k) ≡ LargeAt at = h in let e : place + sample_size (is_wide f) * k ≡ at = cc in sym e)
  large_there bytes there None at h = absurd (by (eqb (length there) (raw_length f)) (ltb (2 ^ 40 - place) (length bytes)) (eqb (length bytes) 0) h)
    where
      by : (whole past empty : Bool) → cond whole (Shown (picture_from f (samples_in (is_wide f) there))) (cond past TooLong (cond empty Over (CutAt (place + length bytes)))) ≡ LargeAt at → ⊥
      by true past empty h = cc
      by false true empty h = cc
      by false false true h = cc
      by false false false h = cc

  pub large_stays : (bytes more : List ℕ) (at : ℕ) → raw_front f place bytes ≡ LargeAt at → raw_front f place (bytes ++ more) ≡ LargeAt at
  large_stays bytes more at h =
      let l = large_there bytes (there_of bytes) (large_of (there_of bytes)) at h in
      let t = there_more bytes more in
      let s = samples_front (is_wide f) (there_of bytes) t.0 in
      let same : large_of (there_of (bytes ++ more)) ≡ Some l.0 =
      ap large_of t.1 ∙ ap (first_large (sample_bounds f)) s.1 ∙ large_kept (sample_bounds f) (samples_in (is_wide f) (there_of bytes)) s.0 l.0 l.1 in
      ap (front_of f place (bytes ++ more) (there_of (bytes ++ more))) same ∙ ap LargeAt (sym l.2)

  -- no whole picture before the limit, and more behind it
  long_there : (bytes there : List ℕ) (large : Option ℕ) → front_of f place bytes there large ≡ TooLong → (large ≡ None) × (eqb (length there) (raw_length f) ≡ false) × (ltb (2 ^ 40 - place) (length bytes) ≡ true)
  long_there bytes there (Some k) h = absurd cc
  long_there bytes there None h = let r = by (eqb (length there) (raw_length f)) (ltb (2 ^ 40 - place) (length bytes)) (eqb (length bytes) 0) refl refl h in (refl, r.0, r.1)
    where
      by : (whole past empty : Bool) → eqb (length there) (raw_length f) ≡ whole → ltb (2 ^ 40 - place) (length bytes) ≡ past
          → cond whole (Shown (picture_from f (samples_in (is_wide f) there))) (cond past TooLong (cond empty Over (CutAt (place + length bytes)))) ≡ TooLong → (eqb (length there) (raw_length f) ≡ false) × (ltb (2 ^ 40 - place) (length bytes) ≡ true)
      by true past empty t u h = absurd cc
      by false true empty t u h = (t, u)
      by false false true t u h = absurd cc
      by false false false t u h = absurd cc

  pub long_stays : (bytes more : List ℕ) → raw_front f place bytes ≡ TooLong → raw_front f place (bytes ++ more) ≡ TooLong
  long_stays bytes more h =
      let l = long_there bytes (there_of bytes) (large_of (there_of bytes)) h in
      let past : 2 ^ 40 - place < length bytes = ltb-true (2 ^ 40 - place) (length bytes) l.2 in
      let same : there_of (bytes ++ more) ≡ there_of bytes = ap (take (raw_length f)) (take-append-le (2 ^ 40 - place) bytes more (omega (arith, past))) in
      let still : ltb (2 ^ 40 - place) (length (bytes ++ more)) ≡ true = lt-ltb (2 ^ 40 - place) (length (bytes ++ more)) (omega (arith, past, length-append bytes more)) in
      ap (λ (t : List ℕ). front_of f place (bytes ++ more) t (large_of t)) same ∙ ap (front_of f place (bytes ++ more) (there_of bytes)) l.0
      ∙ ap (λ (w : Bool). cond w (Shown (picture_from f (samples_in (is_wide f) (there_of bytes)))) (cond (ltb (2 ^ 40 - place) (length (bytes ++ more))) TooLong (cond (eqb (length (bytes ++ more)) 0) Over (CutAt (place + length (bytes ++ more)))))) l.1
      ∙ ap (λ (p : Bool). cond p TooLong (cond (eqb (length (bytes ++ more)) 0) Over (CutAt (place + length (bytes ++ more))))) still

-- ---- a run

module _ {W E : Type 0} (MayGoOn : E → Type 0) (f : Frame) (command : PictureCommand W E) (ends : HasOpenEndings MayGoOn command) (laws : IsMachine (picture_machine f command)) where
  abbrev machine : Machine (BehindPictures W) E
  machine = picture_machine f command

  -- by its first step
  goes : (z : BehindPictures W) (bytes : List ℕ) (s : Step (BehindPictures W) E) → machine.step z bytes ≡ s → MayGoOn (after_step s (λ size left. answer_from machine left (drop size bytes))).ending → MayGoOn (answer_from machine z bytes).ending
  goes z bytes s e h = subst (λ (a : Answer E). MayGoOn a.ending) (sym (answer_step machine laws z bytes ∙ ap (λ x. after_step x (λ size left. answer_from machine left (drop size bytes))) e)) h

  went : (z : BehindPictures W) (bytes : List ℕ) (s : Step (BehindPictures W) E) → machine.step z bytes ≡ s → MayGoOn (answer_from machine z bytes).ending → MayGoOn (after_step s (λ size left. answer_from machine left (drop size bytes))).ending
  went z bytes s e h = subst (λ (a : Answer E). MayGoOn a.ending) (answer_step machine laws z bytes ∙ ap (λ x. after_step x (λ size left. answer_from machine left (drop size bytes))) e) h

  -- the same behind a picture
  abbrev Opens : BehindPictures W → List ℕ → List ℕ → Type 0
  Opens z bytes more = MayGoOn (answer_from machine z (bytes ++ more)).ending → MayGoOn (answer_from machine z bytes).ending

  abbrev behind : BehindPictures W → PictureSamples → BehindPictures W
  behind z p = record { place = z.place + raw_length f; own = command.next z.own p }

  opens_by : (z : BehindPictures W) (bytes more : List ℕ) → ((left : BehindPictures W) → raw_length f ≤ length bytes → Opens left (drop (raw_length f) bytes) more) → Opens z bytes more
  opens_by z bytes more rec h = by (raw_front f z.place bytes) refl
    where
      stopped : (p : PictureSamples) → raw_front f z.place bytes ≡ Shown p → (stop : Option E) → command.stops z.place z.own ≡ stop → MayGoOn (answer_from machine z bytes).ending
      stopped p e (Some ending) s =
          let here = ap (step_by f command z) e ∙ ap (step_shown f command z p) s in
          let there = ap (step_by f command z) (shown_stays f z.place bytes more p e) ∙ ap (step_shown f command z p) s in
          goes z bytes (Ends ending []) here (went z (bytes ++ more) (Ends ending []) there h)
      stopped p e None s =
          let here = ap (step_by f command z) e ∙ ap (step_shown f command z p) s in
          let there = ap (step_by f command z) (shown_stays f z.place bytes more p e) ∙ ap (step_shown f command z p) s in
          let inside = shown_length f z.place bytes p e in
          let unit = Whole (raw_length f) (command.text z.own p) (behind z p) in
          goes z bytes unit here
          (rec (behind z p) inside (subst (λ (l : List ℕ). MayGoOn (answer_from machine (behind z p) l).ending) (drop-append-le (raw_length f) bytes more inside) (went z (bytes ++ more) unit there h)))

      by : (front : RawFront) → raw_front f z.place bytes ≡ front → MayGoOn (answer_from machine z bytes).ending
      by (Shown p) e = stopped p e (command.stops z.place z.own) refl
      by Over e = goes z bytes (Ends (command.finished z.place z.own) (command.last z.place z.own)) (ap (step_by f command z) e) (ends.finished z.place z.own)
      by (CutAt at) e = goes z bytes (Ends (command.refused (CutAt at)) []) (ap (step_by f command z) e) (ends.cut at)
      by (LargeAt at) e =
          goes z bytes (Ends (command.refused (LargeAt at)) []) (ap (step_by f command z) e)
          (went z (bytes ++ more) (Ends (command.refused (LargeAt at)) []) (ap (step_by f command z) (large_stays f z.place bytes more at e)) h)
      by TooLong e =
          goes z bytes (Ends (command.refused TooLong) []) (ap (step_by f command z) e)
          (went z (bytes ++ more) (Ends (command.refused TooLong) []) (ap (step_by f command z) (long_stays f z.place bytes more e)) h)

  -- where it may end otherwise with more bytes, so it may with fewer
  opens : (some : 0 < raw_length f) (n : ℕ) (z : BehindPictures W) (bytes more : List ℕ) → length bytes ≤ n → Opens z bytes more
  opens some zero z bytes more le = opens_by z bytes more (λ left inside. absurd (omega (arith, some, inside, le)))
  opens some (suc n) z bytes more le = opens_by z bytes more (λ left inside. opens some n left (drop (raw_length f) bytes) more (omega (arith, some, inside, le, length-drop (raw_length f) bytes)))

  -- a part of a picture without a sample that is too large
  part_front : (place : ℕ) (part : List ℕ) → length part < raw_length f → length part ≤ 2 ^ 40 - place → first_large (sample_bounds f) (samples_in (is_wide f) part) ≡ None
      → (empty : Bool) → eqb (length part) 0 ≡ empty → raw_front f place part ≡ cond empty Over (CutAt (place + length part))
  part_front place part few inside none empty e =
      let there : take (raw_length f) (take (2 ^ 40 - place) part) ≡ part = ap (take (raw_length f)) (take_all (2 ^ 40 - place) part inside) ∙ take_all (raw_length f) part (omega (arith, few)) in
      let short : eqb (length part) (raw_length f) ≡ false = ne_eqb (length part) (raw_length f) (λ same. omega (arith, same, few)) in
      let past : ltb (2 ^ 40 - place) (length part) ≡ false = le-ltb (2 ^ 40 - place) (length part) inside in
      ap (λ (t : List ℕ). front_of f place part t (first_large (sample_bounds f) (samples_in (is_wide f) t))) there ∙ ap (front_of f place part part) none
      ∙ ap (λ (w : Bool). cond w (Shown (picture_from f (samples_in (is_wide f) part))) (cond (ltb (2 ^ 40 - place) (length part)) TooLong (cond (eqb (length part) 0) Over (CutAt (place + length part))))) short
      ∙ ap (λ (w : Bool). cond w TooLong (cond (eqb (length part) 0) Over (CutAt (place + length part)))) past
      ∙ ap (λ (w : Bool). cond w Over (CutAt (place + length part))) e

  part_open : (z : BehindPictures W) (part : List ℕ) → length part < raw_length f → length part ≤ 2 ^ 40 - z.place → first_large (sample_bounds f) (samples_in (is_wide f) part) ≡ None → MayGoOn (answer_from machine z part).ending
  part_open z part few inside none = by (eqb (length part) 0) refl
    where
      by : (empty : Bool) → eqb (length part) 0 ≡ empty → MayGoOn (answer_from machine z part).ending
      by true e = goes z part (Ends (command.finished z.place z.own) (command.last z.place z.own)) (ap (step_by f command z) (part_front z.place part few inside none true e)) (ends.finished z.place z.own)
      by false e = goes z part (Ends (command.refused (CutAt (z.place + length part))) []) (ap (step_by f command z) (part_front z.place part few inside none false e)) (ends.cut (z.place + length part))

  -- Behind pictures, and with these bytes of the next one: without the last 4096 of all of them more bytes may still change what
  -- they come to.
  pictures_soon : 0 < raw_length f → (done text : List ℕ) (z : BehindPictures W) (taken : List ℕ) → SoFar machine [] done text z → IsInPicture f z.place taken
      → MayGoOn (answer_to machine (all_but 4096 (done ++ taken))).ending
  pictures_soon some done text z taken behind_done here =
      let part = all_but 4096 taken in
      let rest = drop (length taken - 4096) taken in
      let n = length part in
      let soon = here.soon in
      let whole : part ++ rest ≡ taken = take-append-drop (length taken - 4096) taken in
      let long : length taken ≡ length soon.sure + length soon.last = ap (λ (l : List ℕ). length l) soon.parts ∙ length-append soon.sure soon.last in
      let size : n ≡ length taken - 4096 = length-take (length taken - 4096) taken ∙ omega arith in
      let inside : n ≤ length soon.sure = omega (arith, size, long, soon.few) in
      let front : part ≡ take n soon.sure = ap (λ (k : ℕ). take k taken) (sym size) ∙ ap (take n) soon.parts ∙ take-append-le n soon.sure soon.last inside in
      let none : first_large (sample_bounds f) (samples_in (is_wide f) part) ≡ None =
      ap (λ (l : List ℕ). first_large (sample_bounds f) (samples_in (is_wide f) l)) front
      ∙ none_before (is_wide f) (sample_bounds f) (take n soon.sure) (drop n soon.sure) (ap (λ (l : List ℕ). first_large (sample_bounds f) (samples_in (is_wide f) l)) (take-append-drop n soon.sure) ∙ soon.none) in
      let held = part_open z part (omega (arith, size, here.most, some)) (omega (arith, size, here.limit, here.within)) none in
      let all = done ++ taken in
      let m = length all - 4096 in
      let cut = all_but 4096 all in
      let open_done : MayGoOn (answer_to machine (done ++ part)).ending = subst (λ (a : Answer E). MayGoOn a.ending) (sym (behind_done part (λ none. absurd (omega (arith, none))))) held in
      let fewer : m ≤ length (done ++ part) = omega (arith, length-append done taken, length-append done part, size) in
      let begins : cut ≡ take m (done ++ part) =
      ap (take m) (ap (λ (l : List ℕ). done ++ l) (sym whole) ∙ sym (append_assoc done part rest)) ∙ take-append-le m (done ++ part) rest fewer in
      let tail = drop m (done ++ part) in
      let full : cut ++ tail ≡ done ++ part = ap (λ (l : List ℕ). l ++ tail) begins ∙ take-append-drop m (done ++ part) in
      opens some (length cut) (record { place = 0; own = command.start }) cut tail (omega arith)
      (subst (λ (l : List ℕ). MayGoOn (answer_to machine l).ending) (sym full) open_done)

  -- wherever a run stops behind pictures and some bytes of the next one
  module _ (some : 0 < raw_length f) where
    soon_taken : (z : BehindPictures W) (rest0 rest1 rest2 out0 out1 : Option (List ℕ)) → Goes f command z rest0 rest1 out0 out1 → (taken : List ℕ) → Consumes rest1 rest2 taken → IsInPicture f z.place taken → PicturesSoon MayGoOn machine rest0 rest2
    soon_taken z rest0 rest1 rest2 out0 out1 goes taken took here =
        let h = goes.holds in
        record {
          taken = h.done ++ taken;
          took = Consumes-then rest0 rest1 rest2 h.done taken (subst (Consumes rest0 rest1) (append-nil h.done) h.took) took;
          goes = pictures_soon some h.done h.text z taken h.behind here;
        }

-- no byte has a sample
none_of_none : (wide : Bool) (bounds : List ℕ) → first_large bounds (samples_in wide []) ≡ None
none_of_none false [] = refl
none_of_none false (b ∷ bounds) = refl
none_of_none true [] = refl
none_of_none true (b ∷ bounds) = refl

module _ {W E : Type 0} (MayGoOn : E → Type 0) (f : Frame) (command : PictureCommand W E) (ends : HasOpenEndings MayGoOn command) (some : 0 < raw_length f) where
  -- behind some bytes of a picture
  pub soon_behind : (z : BehindPictures W) (rest0 rest1 rest2 out0 out1 : Option (List ℕ)) → Goes f command z rest0 rest1 out0 out1 → (p : PictureSamples) (result : Result RawStep RawFault) → ReadsFront f z.place rest1 rest2 p result
      → PicturesSoon MayGoOn (picture_machine f command) rest0 rest2
  soon_behind z rest0 rest1 rest2 out0 out1 goes p result r =
      soon_taken MayGoOn f command ends (picture_laws f command some) some z rest0 rest1 rest2 out0 out1 goes r.taken r.took (record { most = r.most; limit = r.limit; within = goes.most; soon = r.soon })

  -- between two pictures
  pub soon_between : (z : BehindPictures W) (rest0 rest1 out0 out1 : Option (List ℕ)) → Goes f command z rest0 rest1 out0 out1 → PicturesSoon MayGoOn (picture_machine f command) rest0 rest1
  soon_between z rest0 rest1 out0 out1 goes =
      soon_taken MayGoOn f command ends (picture_laws f command some) some z rest0 rest1 rest1 out0 out1 goes [] (Consumes-none rest1) (record {
        most = omega arith;
        limit = omega (arith, goes.most);
        within = goes.most;
        soon = record { sure = []; last = []; parts = refl; few = omega arith; none = none_of_none (is_wide f) (sample_bounds f) };
      })

  -- and before anything is read
  pub soon_unbegun : (rest : Option (List ℕ)) → PicturesSoon MayGoOn (picture_machine f command) rest rest
  soon_unbegun rest = record {
    taken = [];
    took = Consumes-none rest;
    goes = part_open MayGoOn f command ends (picture_laws f command some) (record { place = 0; own = command.start }) [] some (omega arith) (none_of_none (is_wide f) (sample_bounds f));
  }
