-- The slices that are chosen for a picture were written, each at its index in its share of bytes.
use Rattle.std.proofs.Common.{◌≡◌, ◌∙◌, sym, ap, subst, refl, ℕ, zero, suc, ◌+◌, ◌-◌, ◌*◌, ◌/◌, ◌%◌, ◌<◌, ◌≤◌, Bool, true, false, cond, [], ◌∷◌, ◌++◌, length, get_or, take, replicate, mul_comm, arith}
use Rattle.std.specs.Prelude.{max}
use Rattle.std.specs.List.{AllByRecursion}
use Rattle.std.proofs.Math.Nat.{mul-le-mul_right}
use Rattle.std.proofs.Math.Seq.{take-length}
use Rattle.std.proofs.lemmas.Nat.{mod-mul-add, div-mul-add}
use Rattle.std.proofs.lemmas.List.{length-append, length-take, length-replicate, take-append-le, get_or-take}
use Rattle.std.proofs.lemmas.List.FromFn.{get_or-map-range_with_len}
use Rattle.bit_codes.specs.Bits.{digits_below}
use Rattle.bit_codes.proofs.ByteLemmas.{bits_of-bytes_of, length-bytes_of, bytes_of-fit}
use Rattle.bit_codes.proofs.CodeOf.{length-digits_below}
use Rattle.bounded_blocks.specs.Writing.{codes_of, need}
use Rattle.bounded_blocks.proofs.Needs.{need-most}
use Rattle.slice_geometry.specs.Slicing.{IsAllowed, slice_count, slice_number, length_bits}
use Rattle.slice_geometry.proofs.LengthBits.{length_bits-fit}
use Rattle.slice_geometry.proofs.Shares.{some_share}
use Rattle.slice_encoder.specs.Choice.{fits, slice_bits}
use Rattle.slice_encoder.specs.Chosen.{first_fit, least_index, lists_of_slice, share_of_slice, chosen, written_slice, written_slices}
use Rattle.slice_encoder.specs.TrialLaws.{IsSteepOk}
use Rattle.slice_encoder.specs.Ready.{AreGiven}
use Rattle.slice_encoder.specs.Trials.{CodedPicture, Lists, last_lists}
use Rattle.slice_encoder.proofs.Coarsest.{coarsest}
use Rattle.slice_encoder.proofs.SliceBits.{fit_from}
use Rattle.picture_codec.specs.Written.{IsWritten, AreWritten}
use Rattle.picture_codec.proofs.ChosenSlices.{chosen_next, length-chosen, chosen_indices}
use Rattle.picture_codec.proofs.Steps.{number_is}

-- ---- the bits of a slice

length-slice_bits : (bytes index : ℕ) (l : Lists) → 1 ≤ bytes → fits bytes l ≡ true → length (slice_bits bytes index l) ≡ 8 * bytes
length-slice_bits bytes index l some fit =
    let m : ℕ = length_bits bytes in
    let luma : ℕ = need l.luma in
    let colour : ℕ = need l.colour in
    let left : ℕ = 8 * bytes - 7 - m - luma - colour in
    let a = digits_below 7 index in
    let b = digits_below m luma in
    let c = take luma (codes_of l.luma) in
    let d = take colour (codes_of l.colour) in
    let e = replicate left true in
    omega (
      arith,
      length-append a (b ++ (c ++ (d ++ e))),
      length-append b (c ++ (d ++ e)),
      length-append c (d ++ e),
      length-append d e,
      length-digits_below 7 index,
      length-digits_below m luma,
      length-take luma (codes_of l.luma),
      need-most (codes_of l.luma),
      length-take colour (codes_of l.colour),
      need-most (codes_of l.colour),
      length-replicate left true,
      (fit_from bytes l fit).both,
      length_bits-fit bytes some,
    )

-- ---- the index at which a slice fits

picked : (P : ℕ → Bool) (b : Bool) (x y : ℕ) → P x ≡ b → P y ≡ true → P (cond b x y) ≡ true
picked P true x y e f = e
picked P false x y e f = f

first_fits : (bytes : ℕ) (lists_at : ℕ → Lists) (n i : ℕ) → fits bytes (lists_at (i + n)) ≡ true → fits bytes (lists_at (first_fit bytes lists_at n i)) ≡ true
first_fits bytes lists_at zero i fit =
    let none : i ≡ i + 0 = omega arith in
    ap (λ k. fits bytes (lists_at k)) none ∙ fit
first_fits bytes lists_at (suc n) i fit =
    let next : i + 1 + n ≡ i + suc n = omega arith in
    picked (λ k. fits bytes (lists_at k)) (fits bytes (lists_at i)) i (first_fit bytes lists_at n (i + 1)) refl (first_fits bytes lists_at n (i + 1) (ap (λ k. fits bytes (lists_at k)) next ∙ fit))

-- ---- the front of the indices

front_is : (j : CodedPicture) (n k : ℕ) → take n (chosen j (n + k)) ≡ chosen j n
front_is j n zero =
    let none : n + 0 ≡ n = omega arith in
    ap (λ m. take n (chosen j m)) none ∙ ap (λ m. take m (chosen j n)) (sym (length-chosen j n)) ∙ take-length (chosen j n)
front_is j n (suc k) =
    let next : n + suc k ≡ suc (n + k) = omega arith in
    let last = least_index (share_of_slice j (n + k)) (λ i. lists_of_slice j (n + k) (chosen j (n + k) ++ i ∷ [])) in
    ap (λ m. take n (chosen j m)) next ∙ ap (take n) (chosen_next j (n + k)) ∙ take-append-le n (chosen j (n + k)) (last ∷ []) (omega (arith, length-chosen j (n + k))) ∙ front_is j n k

pub front_of : (j : CodedPicture) (n count : ℕ) → n < count → take (n + 1) (chosen j count) ≡ chosen j (suc n)
front_of j n count lt =
    let more : suc n + (count - suc n) ≡ count = omega arith in
    let one : n + 1 ≡ suc n = omega arith in
    ap (λ m. take m (chosen j count)) one ∙ ap (λ m. take (suc n) (chosen j m)) (sym more) ∙ front_is j (suc n) (count - suc n)

-- ---- the number of a slice

pub number_below : (w h x y : ℕ) → x < w → y < h → y * w + x < w * h
number_below w h x y across down =
    let row : (y + 1) * w ≤ h * w = mul-le-mul_right w (omega arith) in
    let next : (y + 1) * w ≡ y * w + w = grind arith in
    omega (arith, row, next, mul_comm w h)

-- ---- the slices of a picture

module _ (j : CodedPicture) (allowed : IsAllowed j.slicing) (given : AreGiven j) (steep : IsSteepOk j.slicing.depth (max j.frame.luma_depth j.frame.colour_depth) j.matrix) where
  share_some : (n : ℕ) → 1 ≤ share_of_slice j n
  share_some n = some_share j.slicing.a j.slicing.b n allowed.share.some allowed.share.byte

  fits_there : (n : ℕ) → n < slice_count j.slicing → fits (share_of_slice j n) (lists_of_slice j n (chosen j (suc n))) ≡ true
  fits_there n lt =
      let share = share_of_slice j n in
      let lists_at : ℕ → Lists = λ i. lists_of_slice j n (chosen j n ++ i ∷ []) in
      let enough : fits share (lists_at 127) ≡ true =
      coarsest j (chosen j n) share (n % j.slicing.slices_x) (n / j.slicing.slices_x) (record { luma_bits = given.luma_bits; colour_bits = given.colour_bits; luma = given.luma.small; c1 = given.c1.small; c2 = given.c2.small }) steep (chosen_indices j n) (length-chosen j n ∙ sym (number_is j.slicing n lt)) in
      ap (λ l. fits share (lists_of_slice j n l)) (chosen_next j n) ∙ first_fits share lists_at 127 0 enough

  text_length : (n : ℕ) → n < slice_count j.slicing → length (slice_bits (share_of_slice j n) (get_or (chosen j (suc n)) n 0) (lists_of_slice j n (chosen j (suc n)))) ≡ 8 * share_of_slice j n
  text_length n lt = length-slice_bits (share_of_slice j n) (get_or (chosen j (suc n)) n 0) (lists_of_slice j n (chosen j (suc n))) (share_some n) (fits_there n lt)

  pub share_is : (n : ℕ) → n < slice_count j.slicing → length (written_slice j n) ≡ share_of_slice j n
  share_is n lt = length-bytes_of (slice_bits (share_of_slice j n) (get_or (chosen j (suc n)) n 0) (lists_of_slice j n (chosen j (suc n)))) (share_of_slice j n) (text_length n lt)

  pub slice_there : (n : ℕ) → n < slice_count j.slicing → get_or (written_slices j) n [] ≡ written_slice j n
  slice_there n lt = get_or-map-range_with_len (written_slice j) 0 (slice_count j.slicing) n n [] lt (omega arith)

  pub bytes_there : (n : ℕ) → AllByRecursion (λ b. b < 256) (written_slice j n)
  bytes_there n = bytes_of-fit (slice_bits (share_of_slice j n) (get_or (chosen j (suc n)) n 0) (lists_of_slice j n (chosen j (suc n))))

  one_written : (n : ℕ) → n < slice_count j.slicing → IsWritten (written_slice j n) (get_or (chosen j (suc n)) n 0) (lists_of_slice j n (chosen j (suc n)))
  one_written n lt =
      let index = get_or (chosen j (suc n)) n 0 in
      let l = lists_of_slice j n (chosen j (suc n)) in
      let long = sym (share_is n lt) in
      record {
        some = subst (λ k. 1 ≤ k) long (share_some n);
        fit = ap (λ k. fits k l) (sym long) ∙ fits_there n lt;
        bits = bits_of-bytes_of (slice_bits (share_of_slice j n) index l) (share_of_slice j n) (text_length n lt) ∙ ap (λ k. slice_bits k index l) long;
      }

  pub chosen_are_written : AreWritten j (chosen j (slice_count j.slicing)) (written_slices j)
  chosen_are_written sx sy across down =
      let s = j.slicing in
      let n = slice_number s sx sy in
      let lt : n < slice_count s = number_below s.slices_x s.slices_y sx sy across down in
      let column : n % s.slices_x ≡ sx = mod-mul-add sy s.slices_x sx across in
      let row : n / s.slices_x ≡ sy = div-mul-add sy s.slices_x sx across in
      let front = front_of j n (slice_count s) lt in
      let index : get_or (chosen j (suc n)) n 0 ≡ get_or (chosen j (slice_count s)) n 0 = ap (λ l. get_or l n 0) (sym front) ∙ get_or-take (n + 1) (chosen j (slice_count s)) n 0 (omega arith) in
      let lists : lists_of_slice j n (chosen j (suc n)) ≡ last_lists j (take (n + 1) (chosen j (slice_count s))) sx sy =
      ap (λ x. last_lists j (chosen j (suc n)) x (n / s.slices_x)) column ∙ ap (λ y. last_lists j (chosen j (suc n)) sx y) row ∙ ap (λ l. last_lists j l sx sy) (sym front) in
      subst (λ (l : Lists). IsWritten (get_or (written_slices j) n []) (get_or (chosen j (slice_count s)) n 0) l) lists
      (subst (λ i. IsWritten (get_or (written_slices j) n []) i (lists_of_slice j n (chosen j (suc n)))) index
      (subst (λ b. IsWritten b (get_or (chosen j (suc n)) n 0) (lists_of_slice j n (chosen j (suc n)))) (sym (slice_there n lt)) (one_written n lt)))
