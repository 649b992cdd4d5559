-- The slices that were written of a picture are slices of a stream.
use Rattle.std.proofs.Common.{◌≡◌, ◌∙◌, sym, ap, subst, refl, ℕ, suc, ◌+◌, ◌/◌, ◌%◌, ◌<◌, Bool, true, false, not, List, [], ◌∷◌, length, get_or, None, arith}
use Rattle.std.specs.List.{All, AllByRecursion}
use Rattle.std.proofs.lemmas.List.FromFn.{length-map-range_with_len}
use Rattle.field_rows.specs.Rows.{◌or_else◌, first_broken}
use Rattle.sequence_header.specs.declared.parts.HeaderParts.{HeaderParts}
use Rattle.sequence_header.specs.Coding.{luma_size, colour_size}
use Rattle.lifting.specs.declared.Wavelet.{Wavelet}
use Rattle.slice_geometry.specs.declared.Size.{Size}
use Rattle.slice_geometry.specs.Slicing.{IsAllowed, slice_count, slice_number}
use Rattle.transform_params.specs.Params.{Params}
use Rattle.slice_decoder.specs.Slice.{slice_at, is_small}
use Rattle.slice_encoder.specs.Trials.{CodedPicture}
use Rattle.slice_encoder.specs.Chosen.{chosen, written_slice, written_slices}
use Rattle.slice_encoder.specs.TrialLaws.{IsIndex}
use Rattle.slice_encoder.specs.Ready.{AreGiven}
use Rattle.picture_codec.specs.Written.{AreWritten, coded_params}
use Rattle.picture_codec.proofs.Steps.{column_in, row_in, number_is}
use Rattle.picture_codec.proofs.WrittenPictures as pictures
use Rattle.picture_codec.proofs.WrittenPasses.{not_too_long, is_small_there}
use Rattle.picture_codec.proofs.ChosenSlices.{chosen_indices}
use Rattle.picture_codec.proofs.WrittenChosen.{slice_there, share_is, bytes_there, chosen_are_written}
use Rattle.stream_rows.specs.declared.reason.Reason.TheVariants as reasons
use Rattle.stream_writer.specs.EncodedStream.{IsSlice, AreSlices, IsSliced}
use Rattle.stream_writer.specs.WrittenSlices.{HaveShares, WrittenAreSliced, ChosenAreSliced}

-- a list of slices, each of which is one
are_slices : (parts : HeaderParts) (p : Params) (k : ℕ) (slices : List (List ℕ)) → ((i : ℕ) → i < length slices → IsSlice parts p (k + i) (get_or slices i [])) → AreSlices parts p k slices
are_slices parts p k [] f = tt
are_slices parts p k (slice ∷ slices) f =
    let none : k + 0 ≡ k = omega arith in
    (subst (λ n. IsSlice parts p n slice) none (f 0 (omega arith)), are_slices parts p (k + 1) slices others)
  where
    others : (i : ℕ) → i < length slices → IsSlice parts p (k + 1 + i) (get_or slices i [])
    others i lt =
        let next : k + suc i ≡ k + 1 + i = omega arith in
        subst (λ n. IsSlice parts p n (get_or slices i [])) next (f (suc i) (omega arith))

both_hold : (too_long small : Bool) → too_long ≡ false → small ≡ true → first_broken ((not too_long or_else reasons.LumaLengthTooLong) ∷ (small or_else reasons.CoefficientTooLarge) ∷ []) ≡ None
both_hold too_long small e f = rw (e, f) refl

module _ (parts : HeaderParts) (wavelet : Wavelet) (j : CodedPicture) (indices : List ℕ) (slices : List (List ℕ)) (allowed : IsAllowed j.slicing) (given : AreGiven j) (all : All IsIndex indices) (written : AreWritten j indices slices) (luma : j.frame.luma ≡ luma_size parts) (colour : j.frame.colour ≡ colour_size parts) (shares : HaveShares (coded_params wavelet j) slices) where
  is_slice : (n : ℕ) → n < length slices → IsSlice parts (coded_params wavelet j) n (get_or slices n [])
  is_slice n lt =
      let s = j.slicing in
      let sx = n % s.slices_x in
      let sy = n / s.slices_x in
      let few : n < slice_count s = omega (arith, lt, shares.count) in
      let across = column_in s n few in
      let down = row_in s n few in
      let same : get_or slices (slice_number s sx sy) [] ≡ get_or slices n [] = ap (λ k. get_or slices k []) (number_is s n few) in
      let rules : Size → Size → List ℕ → Type 0 = λ y c bytes. let slice = slice_at s y c sx sy bytes in first_broken ((not slice.too_long or_else reasons.LumaLengthTooLong) ∷ (is_small s y c sx sy j.matrix slice or_else reasons.CoefficientTooLarge) ∷ []) ≡ None in
      let here : rules j.frame.luma j.frame.colour (get_or slices (slice_number s sx sy) []) =
      both_hold _ _ (not_too_long j indices slices allowed given all written sx sy across down) (is_small_there j indices slices allowed given all written sx sy across down) in
      record {
        many = shares.many n lt;
        fit = shares.fit n lt;
        passes = subst (λ (y : Size). rules y (colour_size parts) (get_or slices n [])) luma (subst (λ (c : Size). rules j.frame.luma c (get_or slices n [])) colour (subst (rules j.frame.luma j.frame.colour) same here));
      }

  pub sliced : IsSliced parts (coded_params wavelet j) slices
  sliced = record {
    count = shares.count;
    each = are_slices parts (coded_params wavelet j) 0 slices (λ i lt. subst (λ n. IsSlice parts (coded_params wavelet j) n (get_or slices i [])) (first i) (is_slice i lt));
  }
    where
      first : (i : ℕ) → i ≡ 0 + i
      first i = omega arith

pub written_are_sliced : WrittenAreSliced
written_are_sliced parts wavelet j indices slices allowed given all written luma colour shares =
    (sliced parts wavelet j indices slices allowed given all written luma colour shares, λ sx sy across down. pictures.slice_is j indices slices allowed given all written sx sy across down)

pub chosen_are_sliced : ChosenAreSliced
chosen_are_sliced parts wavelet j allowed given steep luma colour =
    let s = j.slicing in
    let many : length (written_slices j) ≡ slice_count s = length-map-range_with_len (written_slice j) 0 (slice_count s) in
    let shares : HaveShares (coded_params wavelet j) (written_slices j) = record {
      count = many;
      many = λ n lt. let few : n < slice_count s = omega (arith, lt, many) in ap length (slice_there j allowed given steep n few) ∙ share_is j allowed given steep n few;
      fit = λ n lt. let few : n < slice_count s = omega (arith, lt, many) in subst (λ l. AllByRecursion (λ b. b < 256) l) (sym (slice_there j allowed given steep n few)) (bytes_there j allowed given steep n);
    } in
    written_are_sliced parts wavelet j (chosen j (slice_count s)) (written_slices j) allowed given (chosen_indices j (slice_count s)) (chosen_are_written j allowed given steep) luma colour shares
