-- The index that a slice takes is the least that fits.
use Rattle.std.proofs.Common.{◌≡◌, ℕ, zero, suc, ◌+◌, ◌/◌, ◌%◌, ◌<◌, ◌≤◌, true, List, [], ◌∷◌, ◌++◌, get_or, take, sym, ap, subst, ◌∙◌, arith}
use Rattle.std.specs.Prelude.{max}
use Rattle.std.proofs.Math.Seq.{take-suc, take-length}
use Rattle.std.proofs.lemmas.List.{take-append-le, take-take, get_or-take}
use Rattle.slice_geometry.specs.Frames.{frame_of}
use Rattle.slice_geometry.specs.Slicing.{slice_count}
use Rattle.slice_encoder.specs.Choice.{fits, IsLeastIndex}
use Rattle.slice_encoder.specs.Chosen.{least_index, lists_of_slice, share_of_slice, chosen}
use Rattle.slice_encoder.specs.TrialLaws.{IsSteepOk}
use Rattle.slice_encoder.specs.Trials.{CodedPicture, Lists}
use Rattle.slice_encoder.specs.Ready.{AreGiven}
use Rattle.slice_encoder.proofs.Coarsest.{coarsest, last_index}
use Rattle.slice_encoder.proofs.Least.{one_least}
use Rattle.picture_codec.specs.Encoding.{coded_from}
use Rattle.picture_codec.specs.LeastIndices.{AreLeast, OneChoice, EachHasOneChoice}
use Rattle.picture_codec.proofs.ChosenSlices.{least_is, chosen_next, chosen_none, length-chosen, chosen_indices}
use Rattle.picture_codec.proofs.WrittenChosen.{front_of}
use Rattle.picture_codec.proofs.CodedBands.{coded_is_given}
use Rattle.picture_codec.proofs.Steps.{number_is}

-- where the coarsest index fits, the first that fits is the least
first-least : (bytes : ℕ) (lists_at : ℕ → Lists) → fits bytes (lists_at 127) ≡ true → IsLeastIndex bytes lists_at (least_index bytes lists_at)
first-least bytes lists_at enough =
    let some = (one_least bytes lists_at).some enough in
    subst (λ (i : ℕ). IsLeastIndex bytes lists_at i) (sym (least_is bytes lists_at some.0 some.1)) some.1

module _ (j : CodedPicture) (given : AreGiven j) (steep : IsSteepOk j.slicing.depth (max j.frame.luma_depth j.frame.colour_depth) j.matrix) where
  abbrev count : ℕ
  count = slice_count j.slicing

  -- the lists of slice n after indices
  abbrev lists_behind : ℕ → List ℕ → ℕ → Lists
  lists_behind n indices i = lists_of_slice j n (indices ++ i ∷ [])

  next-least : (n : ℕ) → n < count → IsLeastIndex (share_of_slice j n) (lists_behind n (chosen j n)) (least_index (share_of_slice j n) (lists_behind n (chosen j n)))
  next-least n lt = first-least (share_of_slice j n) (lists_behind n (chosen j n))
      (coarsest j (chosen j n) (share_of_slice j n) (n % j.slicing.slices_x) (n / j.slicing.slices_x)
      (record { luma_bits = given.luma_bits; colour_bits = given.colour_bits; luma = given.luma.small; c1 = given.c1.small; c2 = given.c2.small })
      steep (chosen_indices j n) (length-chosen j n ∙ sym (number_is j.slicing n lt)))

  -- the indices before slice n, and its own
  before-is : (n : ℕ) → n < count → take n (chosen j count) ≡ chosen j n
  before-is n lt =
      let last = least_index (share_of_slice j n) (lists_behind n (chosen j n)) in
      sym (take-take n (n + 1) (chosen j count) (omega arith))
      ∙ (ap (take n) (front_of j n count lt ∙ chosen_next j n)
      ∙ (take-append-le n (chosen j n) (last ∷ []) (omega (arith, length-chosen j n))
      ∙ (ap (λ (m : ℕ). take m (chosen j n)) (sym (length-chosen j n)) ∙ take-length (chosen j n))))

  own-is : (n : ℕ) → n < count → get_or (chosen j count) n 0 ≡ least_index (share_of_slice j n) (lists_behind n (chosen j n))
  own-is n lt =
      let last = least_index (share_of_slice j n) (lists_behind n (chosen j n)) in
      sym (get_or-take (n + 1) (chosen j count) n 0 (omega arith))
      ∙ (ap (λ (l : List ℕ). get_or l n 0) (front_of j n count lt ∙ chosen_next j n) ∙ last_index (chosen j n) n last (length-chosen j n))

  found : AreLeast j (chosen j count)
  found = record {
    count = length-chosen j count;
    each = λ n lt.
        subst (λ (l : List ℕ). IsLeastIndex (share_of_slice j n) (lists_behind n l) (get_or (chosen j count) n 0)) (sym (before-is n lt))
        (subst (λ (i : ℕ). IsLeastIndex (share_of_slice j n) (lists_behind n (chosen j n)) i) (sym (own-is n lt)) (next-least n lt));
  }

  module _ (indices : List ℕ) (least : AreLeast j indices) where
    front-is : (n : ℕ) → n ≤ count → take n indices ≡ chosen j n
    front-is zero low = sym (chosen_none j)
    front-is (suc n) low =
        let before = front-is n (omega arith) in
        let here : least_index (share_of_slice j n) (lists_behind n (take n indices)) ≡ get_or indices n 0 =
        least_is (share_of_slice j n) (lists_behind n (take n indices)) (get_or indices n 0) (least.each n (omega arith)) in
        take-suc indices n 0 (omega (arith, least.count))
        ∙ (ap (λ (i : ℕ). take n indices ++ i ∷ []) (sym here)
        ∙ (ap (λ (l : List ℕ). l ++ least_index (share_of_slice j n) (lists_behind n l) ∷ []) before ∙ sym (chosen_next j n)))

    all-is : indices ≡ chosen j count
    all-is = sym (take-length indices) ∙ (ap (λ (n : ℕ). take n indices) least.count ∙ front-is count (omega arith))

  pub one_choice : OneChoice j
  one_choice = record { found = found; only = all-is }

pub each_choice : EachHasOneChoice
each_choice shape p s lawful steep have = one_choice (coded_from (frame_of shape) p s) (coded_is_given shape p s lawful have) steep
