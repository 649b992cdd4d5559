-- The turns of a loop over raw pictures, of any command.
use Rattle.std.proofs.Common.{◌≡◌, ℕ, ◌+◌, ◌-◌, ◌*◌, ◌^◌, ◌<◌, ◌≤◌, Bool, true, false, List, [], ◌++◌, length, take, Option, Some, None, Result, Ok, Err, refl, sym, ap, subst, ◌∙◌, arith, append-nil}
use Rattle.std.proofs.lemmas.List.{length-append, length-take}
use Rattle.std.specs.Io.KnownBytes.{Appends, IsAtEnd}
use Rattle.vc2_io.specs.Outside.{GrewShort}
use Rattle.vc2_io.proofs.Known.{Consumes-none, Consumes-then, Appends-none}
use Rattle.slice_geometry.specs.declared.PictureShape.{PictureShape}
use Rattle.slice_geometry.specs.Frames.{Frame, frame_of}
use Rattle.picture_codec.specs.Samples.{PictureSamples}
use Rattle.raw_video.specs.RawText.{is_wide}
use Rattle.raw_video.specs.RawParse.{sample_size, raw_length, RawFront, Shown, Over, LargeAt, CutAt, TooLong, raw_front}
use Rattle.raw_video.specs.Reading.{ReadsFront}
use Rattle.raw_video.specs.declared.reader.RawStep.{RawStep}
use Rattle.raw_video.specs.declared.reader.RawStep.TheVariants as steps
use Rattle.raw_video.specs.declared.reader.RawFault.{RawFault}
use Rattle.raw_video.specs.declared.reader.RawFault.TheVariants as faults
use Rattle.run_theory.specs.Walk.{Step, Ends, Whole, IsMachine, NoneWhole}
use Rattle.run_theory.specs.Ran.{Ran, TakesAtMost}
use Rattle.run_theory.specs.declared.Halt.TheVariants as halts
use Rattle.run_theory.proofs.Walks.{none_if}
use Rattle.run_theory.proofs.Windows.{NoneDue, holds_opened, holds_more, holds_lost, holds_no_memory, holds_out_fault, holds_ended, holds_last_fault}
use Rattle.raw_video.specs.PictureRuns.{PictureCommand, BehindPictures, step_shown, step_by, picture_machine, Goes}
use Rattle.raw_video.proofs.ShownFronts.{shown_length, shown_stays}

-- a picture has a byte
pub some_raw : (shape : PictureShape) → 0 < raw_length (frame_of shape)
some_raw shape = product (is_wide (frame_of shape)) shape.luma.h shape.luma.w (shape.colour.h * shape.colour.w) shape.luma_fits.some_rows shape.luma_fits.some_columns
  where
    area : (h w : ℕ) → 1 ≤ h → 1 ≤ w → 1 ≤ h * w
    area h w a b = grind arith

    product : (wide : Bool) (h w colour : ℕ) → 1 ≤ h → 1 ≤ w → 0 < sample_size wide * (h * w + 2 * colour)
    product false h w colour a b = omega (arith, area h w a b)
    product true h w colour a b = omega (arith, area h w a b)

nothing_more : (rest : Option (List ℕ)) (taken more : List ℕ) → IsAtEnd rest → rest ≡ Some more → taken ++ more ≡ taken
nothing_more rest taken more over told = let none = subst IsAtEnd told over in let nil : more ≡ [] = none in ap (λ (l : List ℕ). taken ++ l) nil ∙ append-nil taken

abbrev step_of : {Z E : Type 0} → ℕ → List ℕ → Z → Step Z E
step_of size text left = Whole size text left

whole_size : {Z E : Type 0} (a b : ℕ) (t u : List ℕ) (l m : Z) → step_of {E = E} a t l ≡ step_of b u m → b ≡ a
whole_size a b t u l m h = let same : a ≡ b = cc in sym same

module _ {W E : Type 0} (f : Frame) (command : PictureCommand W E) where
  -- a whole unit is a picture in front
  record IsPicture (z : BehindPictures W) (front : RawFront) (size : ℕ) : Type 0 where
    p : PictureSamples
    is : front ≡ Shown p
    long : size ≡ raw_length f

  unstopped : (z : BehindPictures W) (p : PictureSamples) (stop : Option E) (size : ℕ) (text : List ℕ) (left : BehindPictures W) → step_shown f command z p stop ≡ Whole size text left → size ≡ raw_length f
  unstopped z p (Some ending) size text left h = absurd cc
  unstopped z p None size text left h = whole_size (raw_length f) size (command.text z.own p) text (record { place = z.place + raw_length f; own = command.next z.own p }) left h

  is_picture : (z : BehindPictures W) (front : RawFront) (size : ℕ) (text : List ℕ) (left : BehindPictures W) → step_by f command z front ≡ Whole size text left → IsPicture z front size
  is_picture z (Shown p) size text left h = record { p = p; is = refl; long = unstopped z p (command.stops z.place z.own) size text left h }
  is_picture z Over size text left h = absurd cc
  is_picture z (LargeAt place) size text left h = absurd cc
  is_picture z (CutAt place) size text left h = absurd cc
  is_picture z TooLong size text left h = absurd cc

  module _ (some : 0 < raw_length f) where
    pub picture_laws : IsMachine (picture_machine f command)
    picture_laws = record {
      some = λ z bytes size text left h. omega (arith, some, (is_picture z (raw_front f z.place bytes) size text left h).long);
      inside = λ z bytes size text left h.
          let s = is_picture z (raw_front f z.place bytes) size text left h in
          omega (arith, s.long, shown_length f z.place bytes s.p s.is);
      stable = λ z bytes more size text left h.
          let s = is_picture z (raw_front f z.place bytes) size text left h in
          ap (step_by f command z) (shown_stays f z.place bytes more s.p s.is) ∙ ap (step_by f command z) (sym s.is) ∙ h;
    }

    -- fewer bytes than a picture's are no unit
    none_short : (z : BehindPictures W) (bytes : List ℕ) → length bytes < raw_length f → NoneWhole ((picture_machine f command).step z bytes)
    none_short z bytes few = none_if ((picture_machine f command).step z bytes) (λ size text left h.
        let s = is_picture z (raw_front f z.place bytes) size text left h in
        omega (arith, few, shown_length f z.place bytes s.p s.is))

    none_due : (z : BehindPictures W) (bytes : List ℕ) → length bytes ≤ raw_length f → NoneDue (picture_machine f command) z bytes
    none_due z bytes most long = none_short z (take (length bytes - 4096) bytes) (omega (arith, most, long, length-take (length bytes - 4096) bytes))

    -- nothing is read yet
    pub goes_first : (rest out0 out1 : Option (List ℕ)) → Appends out0 out1 command.opening → Goes f command (record { place = 0; own = command.start }) rest rest out0 out1
    goes_first rest out0 out1 wrote = record {
      taken = [];
      total = refl;
      most = omega arith;
      took = Consumes-none rest;
      holds = holds_opened picture_laws rest out0 out1 wrote;
    }

    module _ (z : BehindPictures W) (rest0 rest1 out0 out1 : Option (List ℕ)) (goes : Goes f command z rest0 rest1 out0 out1) where
      pub most_taken : (rest2 : Option (List ℕ)) (p : PictureSamples) (result : Result RawStep RawFault) → ReadsFront f z.place rest1 rest2 p result → TakesAtMost (2 ^ 40 + 1) rest0 rest2
      most_taken rest2 p result r = (goes.taken ++ r.taken, omega (arith, length-append goes.taken r.taken, goes.total, r.limit), Consumes-then rest0 rest1 rest2 goes.taken r.taken goes.took r.took)

      -- a picture
      module _ (rest2 : Option (List ℕ)) (p : PictureSamples) (r : ReadsFront f z.place rest1 rest2 p (Ok steps.Picture)) where
        left : BehindPictures W
        left = record { place = z.place + raw_length f; own = command.next z.own p }

        step_is : (more : List ℕ) → command.stops z.place z.own ≡ None
            → (picture_machine f command).step z (r.taken ++ more) ≡ Whole (length r.taken) (command.text z.own p) (record { place = z.place + raw_length f; own = command.next z.own p })
        step_is more goes_on =
            ap (step_by f command z) (r.front.2 more) ∙ ap (step_shown f command z p) goes_on
            ∙ ap (λ (n : ℕ). Whole n (command.text z.own p) (record { place = z.place + raw_length f; own = command.next z.own p })) (sym r.front.0)

        some_taken : 0 < length r.taken
        some_taken = omega (arith, some, r.front.0)

        pub goes_more : (out2 : Option (List ℕ)) → command.stops z.place z.own ≡ None → Appends out1 out2 (command.text z.own p)
            → Goes f command (record { place = z.place + raw_length f; own = command.next z.own p }) rest0 rest2 out0 out2
        goes_more out2 goes_on wrote = record {
          taken = goes.taken ++ r.taken;
          total = length-append goes.taken r.taken ∙ ap (λ (n : ℕ). n + length r.taken) goes.total ∙ ap (λ (n : ℕ). z.place + n) r.front.0;
          most = r.front.1;
          took = Consumes-then rest0 rest1 rest2 goes.taken r.taken goes.took r.took;
          holds = holds_more picture_laws rest2 out2 r.taken r.taken [] (command.text z.own p) (record { place = z.place + raw_length f; own = command.next z.own p }) goes.holds r.took (sym (append-nil r.taken)) some_taken (λ more fits. step_is more goes_on) wrote;
        }

        -- its text was not written whole
        pub ran_short : (out2 : Option (List ℕ)) → command.stops z.place z.own ≡ None → GrewShort out1 out2 (command.text z.own p) → Ran (picture_machine f command) rest0 rest2 out0 out2 (Err halts.OutFault)
        ran_short out2 goes_on short =
            holds_out_fault picture_laws rest2 out2 r.taken r.taken [] (command.text z.own p) (record { place = z.place + raw_length f; own = command.next z.own p }) goes.holds r.took (sym (append-nil r.taken)) some_taken (λ more fits. step_is more goes_on) (none_due z r.taken r.most) short

        -- the run ends with it
        pub ran_stopped : (ending : E) → command.stops z.place z.own ≡ Some ending → Ran (picture_machine f command) rest0 rest2 out0 out1 (Ok ending)
        ran_stopped ending stops =
            holds_ended picture_laws rest2 out1 r.taken [] ending goes.holds r.took
            (λ more told. ap (step_by f command z) (r.front.2 more) ∙ ap (step_shown f command z p) stops) (Appends-none out1 out1 refl)

        pub ran_unwritten : Ran (picture_machine f command) rest0 rest2 out0 out1 (Err halts.NoMemory)
        ran_unwritten = holds_no_memory picture_laws rest2 r.taken goes.holds r.took (none_due z r.taken r.most)

      -- the input is over
      module _ (rest2 : Option (List ℕ)) (p : PictureSamples) (r : ReadsFront f z.place rest1 rest2 p (Ok steps.End)) where
        over : (more : List ℕ) → rest2 ≡ Some more → (picture_machine f command).step z (r.taken ++ more) ≡ Ends (command.finished z.place z.own) (command.last z.place z.own)
        over more told = ap (λ (l : List ℕ). (picture_machine f command).step z l) (nothing_more rest2 r.taken more r.front.1 told) ∙ ap (step_by f command z) r.front.2

        pub ran_over : (out2 : Option (List ℕ)) → Appends out1 out2 (command.last z.place z.own) → Ran (picture_machine f command) rest0 rest2 out0 out2 (Ok (command.finished z.place z.own))
        ran_over out2 wrote = holds_ended picture_laws rest2 out2 r.taken (command.last z.place z.own) (command.finished z.place z.own) goes.holds r.took over wrote

        pub ran_over_short : (out2 : Option (List ℕ)) → GrewShort out1 out2 (command.last z.place z.own) → Ran (picture_machine f command) rest0 rest2 out0 out2 (Err halts.OutFault)
        ran_over_short out2 short = holds_last_fault picture_laws rest2 out2 r.taken (command.last z.place z.own) (command.finished z.place z.own) goes.holds r.took (none_due z r.taken r.most) over short

        pub ran_over_unwritten : Ran (picture_machine f command) rest0 rest2 out0 out1 (Err halts.NoMemory)
        ran_over_unwritten = holds_no_memory picture_laws rest2 r.taken goes.holds r.took (none_due z r.taken r.most)

      -- the run stops between two pictures
      pub ran_on : Ran (picture_machine f command) rest0 rest1 out0 out1 (Err halts.NoMemory)
      ran_on = holds_no_memory picture_laws rest1 [] goes.holds (Consumes-none rest1) (none_due z [] (omega arith))

      -- there is no next picture
      pub ran_large : (rest2 : Option (List ℕ)) (p : PictureSamples) (at : ℕ) → ReadsFront f z.place rest1 rest2 p (Err (faults.SampleTooLarge at)) → Ran (picture_machine f command) rest0 rest2 out0 out1 (Ok (command.refused (LargeAt at)))
      ran_large rest2 p at r = holds_ended picture_laws rest2 out1 r.taken [] (command.refused (LargeAt at)) goes.holds r.took (λ more told. ap (step_by f command z) (r.front more)) (Appends-none out1 out1 refl)

      pub ran_cut : (rest2 : Option (List ℕ)) (p : PictureSamples) (at : ℕ) → ReadsFront f z.place rest1 rest2 p (Err (faults.RawTruncated at)) → Ran (picture_machine f command) rest0 rest2 out0 out1 (Ok (command.refused (CutAt at)))
      ran_cut rest2 p at r =
          holds_ended picture_laws rest2 out1 r.taken [] (command.refused (CutAt at)) goes.holds r.took
          (λ more told. ap (λ (l : List ℕ). (picture_machine f command).step z l) (nothing_more rest2 r.taken more r.front.0 told) ∙ ap (step_by f command z) r.front.1) (Appends-none out1 out1 refl)

      pub ran_past : (rest2 : Option (List ℕ)) (p : PictureSamples) → ReadsFront f z.place rest1 rest2 p (Err faults.TooLong) → Ran (picture_machine f command) rest0 rest2 out0 out1 (Ok (command.refused TooLong))
      ran_past rest2 p r = holds_ended picture_laws rest2 out1 r.taken [] (command.refused TooLong) goes.holds r.took (λ more told. ap (step_by f command z) (r.front more)) (Appends-none out1 out1 refl)

      pub ran_lost : (rest2 : Option (List ℕ)) (p : PictureSamples) → ReadsFront f z.place rest1 rest2 p (Err faults.ReadFault) → Ran (picture_machine f command) rest0 rest2 out0 out1 (Err halts.ReadFault)
      ran_lost rest2 p r = holds_lost picture_laws rest2 r.taken goes.holds r.took (none_short z r.taken r.front)
