-- What the first places of a slice's lowest subbands are predicted from lies outside the slice, so the residuals that are
-- known before a trial are those that it quantises, and their codes bound what it needs.
use Rattle.std.proofs.Common.{◌≡◌, ◌∙◌, sym, ap, subst, refl, ℕ, suc, ◌+◌, ◌-◌, ◌*◌, ◌^◌, ◌<◌, ◌≤◌, List, [], ◌∷◌, ◌++◌, length, map, arith, inl, inr, ℤ, pos, ◌-ℤ◌, to_z, of_z, w64, FitsSigned}
use Rattle.std.specs.Prelude.{unsigned_abs}
use Rattle.std.specs.List.{flat_map, range_with_len}
use Rattle.std.proofs.Math.Nat.{zero-div}
use Rattle.std.proofs.lemmas.Int.{fits_signed_from_abs}
use Rattle.std.proofs.lemmas.Bool.{cases_lt, lt-ltb, le-ltb}
use Rattle.std.proofs.lemmas.List.{length-append}
use Rattle.planes.specs.Numbers.{Within}
use Rattle.planes.specs.Raster.{Grid, Raster, at}
use Rattle.planes.specs.Rect.{IsInRect}
use Rattle.planes.specs.declared.Rect.{Rect}
use Rattle.planes.specs.declared.ThreePlanes.{ThreePlanes}
use Rattle.bit_codes.specs.Codes.{signed_code_of}
use Rattle.bounded_blocks.specs.Writing.{codes_of, need}
use Rattle.bounded_blocks.proofs.Needs.{code-zero}
use Rattle.dc_prediction.specs.Prediction.{prediction, AllLookedAt}
use Rattle.dc_prediction.proofs.PredictionLemmas.{prediction_same, fits}
use Rattle.quant_factors.specs.Factors.{factor_of, forward_of}
use Rattle.quant_factors.specs.Weights.{band_quantiser}
use Rattle.quant_factors.proofs.QuantLemmas.{coarser}
use Rattle.slice_geometry.specs.SliceOrder.{level_rect, area, number_in}
use Rattle.slice_encoder.specs.declared.bounding.Lower.{Lower}
use Rattle.slice_encoder.specs.declared.first_residuals.FirstResiduals.{FirstResiduals}
use Rattle.slice_encoder.specs.Trials.{CodedComponent, coefficient, CodedPicture, luma_of, c1_of, c2_of}
use Rattle.slice_encoder.specs.Tries.{tried, tried_lists}
use Rattle.slice_encoder.specs.Listing.{rect_values, pair_values}
use Rattle.slice_encoder.specs.RectTrials.{CanTryRect}
use Rattle.slice_encoder.specs.FirstResiduals.{first_in, first_residual, AreFirst, bits_beyond_one}
use Rattle.slice_encoder.specs.Gathering.{high_part, high_pair}
use Rattle.slice_encoder.proofs.Parts.{reach_of}
use Rattle.slice_encoder.proofs.BandParts.{length_rect, length_pairs}
use Rattle.slice_encoder.proofs.Near.{within_abs, difference_within}
use Rattle.slice_encoder.proofs.PlaceByPlace.{prediction_looked, looked_wider}
use Rattle.slice_encoder.proofs.Continues.{tried-outside}
use Rattle.slice_encoder.proofs.Reaches.{code_some, code_rises, lowest_value, luma_split, colour_split, split_reach}

-- ---- the codes of the first values

-- each value takes a bit at least
each_a_bit : (ll : List ℤ) → length ll ≤ length (codes_of ll)
each_a_bit [] = omega arith
each_a_bit (v ∷ ll) = omega (arith, length-append (signed_code_of v) (codes_of ll), code_some v, each_a_bit ll)

-- and the first its code
abbrev beyond : ℤ → ℕ
beyond v = length (signed_code_of v) - 1

first_whole : (v : ℤ) (ll : List ℤ) → length (v ∷ ll) + beyond v ≤ length (codes_of (v ∷ ll))
first_whole v ll = omega (arith, length-append (signed_code_of v) (codes_of ll), code_some v, each_a_bit ll)

two_whole : (v w : ℤ) (ll : List ℤ) → length (v ∷ w ∷ ll) + (beyond v + beyond w) ≤ length (codes_of (v ∷ w ∷ ll))
two_whole v w ll = omega (arith, length-append (signed_code_of v) (codes_of (w ∷ ll)), code_some v, first_whole w ll)

-- ---- a rectangle with a place begins with its first place

abbrev rows : Grid → ℕ → ℕ → ℕ → ℕ → List ℤ
rows g x0 y0 m n = flat_map (λ y. map (g y) (range_with_len x0 m)) (range_with_len y0 n)

abbrev pair_rows : Grid → Grid → ℕ → ℕ → ℕ → ℕ → List ℤ
pair_rows g h x0 y0 m n = flat_map (λ y. flat_map (λ x. g y x ∷ h y x ∷ []) (range_with_len x0 m)) (range_with_len y0 n)

rows_first : (g : Grid) (x0 y0 m n : ℕ) → length (rows g x0 y0 (suc m) (suc n)) + beyond (g y0 x0) ≤ length (codes_of (rows g x0 y0 (suc m) (suc n)))
rows_first g x0 y0 m n = first_whole (g y0 x0) (map (g y0) (range_with_len (x0 + 1) m) ++ rows g x0 (y0 + 1) (suc m) n)

pairs_first : (g h : Grid) (x0 y0 m n : ℕ) → length (pair_rows g h x0 y0 (suc m) (suc n)) + (beyond (g y0 x0) + beyond (h y0 x0)) ≤ length (codes_of (pair_rows g h x0 y0 (suc m) (suc n)))
pairs_first g h x0 y0 m n = two_whole (g y0 x0) (h y0 x0) (flat_map (λ x. g y0 x ∷ h y0 x ∷ []) (range_with_len (x0 + 1) m) ++ pair_rows g h x0 (y0 + 1) (suc m) n)

rect_first : (g : Grid) (r : Rect) → r.x0 < r.x1 → r.y0 < r.y1 → area r + beyond (g r.y0 r.x0) ≤ length (codes_of (rect_values g r))
rect_first g r across down =
    let wide : suc (r.x1 - r.x0 - 1) ≡ r.x1 - r.x0 = omega arith in
    let tall : suc (r.y1 - r.y0 - 1) ≡ r.y1 - r.y0 = omega arith in
    let P = λ (m n : ℕ). length (rows g r.x0 r.y0 m n) + beyond (g r.y0 r.x0) ≤ length (codes_of (rows g r.x0 r.y0 m n)) in
    let all : P (r.x1 - r.x0) (r.y1 - r.y0) = subst (λ (m : ℕ). P m (r.y1 - r.y0)) wide (subst (λ (n : ℕ). P (suc (r.x1 - r.x0 - 1)) n) tall (rows_first g r.x0 r.y0 (r.x1 - r.x0 - 1) (r.y1 - r.y0 - 1))) in
    subst (λ (n : ℕ). n + beyond (g r.y0 r.x0) ≤ length (codes_of (rect_values g r))) (length_rect g r) all

pair_first : (g h : Grid) (r : Rect) → r.x0 < r.x1 → r.y0 < r.y1 → 2 * area r + (beyond (g r.y0 r.x0) + beyond (h r.y0 r.x0)) ≤ length (codes_of (pair_values g h r))
pair_first g h r across down =
    let wide : suc (r.x1 - r.x0 - 1) ≡ r.x1 - r.x0 = omega arith in
    let tall : suc (r.y1 - r.y0 - 1) ≡ r.y1 - r.y0 = omega arith in
    let more = beyond (g r.y0 r.x0) + beyond (h r.y0 r.x0) in
    let P = λ (m n : ℕ). length (pair_rows g h r.x0 r.y0 m n) + more ≤ length (codes_of (pair_rows g h r.x0 r.y0 m n)) in
    let all : P (r.x1 - r.x0) (r.y1 - r.y0) = subst (λ (m : ℕ). P m (r.y1 - r.y0)) wide (subst (λ (n : ℕ). P (suc (r.x1 - r.x0 - 1)) n) tall (pairs_first g h r.x0 r.y0 (r.x1 - r.x0 - 1) (r.y1 - r.y0 - 1))) in
    subst (λ (n : ℕ). n + more ≤ length (codes_of (pair_values g h r))) (length_pairs g h r) all

-- ---- the first residual is the one of each trial

pub first_there : (r : Rect) (g kept : Grid) → r.x0 < r.x1 → r.y0 < r.y1 → first_in r g kept ≡ g r.y0 r.x0 -ℤ prediction kept r.y0 r.x0
first_there r g kept across down = rw (lt-ltb r.x0 r.x1 across, lt-ltb r.y0 r.y1 down) refl

none_across : (r : Rect) (g kept : Grid) → r.x1 ≤ r.x0 → first_in r g kept ≡ pos 0
none_across r g kept none = rw (le-ltb r.x0 r.x1 none) refl

none_down : (r : Rect) (g kept : Grid) → r.x0 < r.x1 → r.y1 ≤ r.y0 → first_in r g kept ≡ pos 0
none_down r g kept across none = rw (lt-ltb r.x0 r.x1 across, le-ltb r.y0 r.y1 none) refl

-- the same of the same coefficients
pub first_same : (r : Rect) (g h kept : Grid) → ((y x : ℕ) → IsInRect r y x → g y x ≡ h y x) → first_in r g kept ≡ first_in r h kept
first_same r g h kept same = elim (cases_lt r.x0 r.x1) as (λ _. first_in r g kept ≡ first_in r h kept) [
  | inr none ↦ none_across r g kept none ∙ sym (none_across r h kept none)
  | inl across ↦ elim (cases_lt r.y0 r.y1) as (λ _. first_in r g kept ≡ first_in r h kept) [
    | inr none ↦ none_down r g kept across none ∙ sym (none_down r h kept across none)
    | inl down ↦
        let here : IsInRect r r.y0 r.x0 = record { left = omega arith; right = across; top = omega arith; bottom = down } in
        first_there r g kept across down
        ∙ ap (λ (v : ℤ). v -ℤ prediction kept r.y0 r.x0) (same r.y0 r.x0 here)
        ∙ sym (first_there r h kept across down)
  ]
]

beyond_zero : (q : ℕ) → bits_beyond_one (pos 0) q ≡ 0
unfolding forward_of
beyond_zero q =
    ap (λ (n : ℕ). beyond (pos n)) (zero-div (factor_of q)) ∙ ap (λ (t : List _). length t - 1) code-zero

predicted_outside : (c : CodedComponent) (sx sy index : ℕ) (kept : Grid) → let r = level_rect c.slicing c.size sx sy 0 in prediction (tried c sx sy index kept) r.y0 r.x0 ≡ prediction kept r.y0 r.x0
predicted_outside c sx sy index kept =
    let r = level_rect c.slicing c.size sx sy 0 in
    prediction_same (tried c sx sy index kept) kept r.y0 r.x0 (record {
      left = λ some. tried-outside c sx sy index kept r.y0 (r.x0 - 1) (λ here. omega (arith, some, here.left));
      above = λ some. tried-outside c sx sy index kept (r.y0 - 1) r.x0 (λ here. omega (arith, some, here.top));
      corner = λ some more. tried-outside c sx sy index kept (r.y0 - 1) (r.x0 - 1) (λ here. omega (arith, some, here.top));
    })

-- what the first place of a component takes beyond a bit
module _ (c : CodedComponent) (sx sy index : ℕ) (kept : Grid) where
  abbrev rect : Rect
  rect = level_rect c.slicing c.size sx sy 0

  abbrev q : ℕ
  q = band_quantiser c.matrix index 0 0

  pub beyond_there : rect.x0 < rect.x1 → rect.y0 < rect.y1 → bits_beyond_one (first_residual c sx sy kept) q ≡ beyond (lowest_value c (tried c sx sy index kept) index rect.y0 rect.x0)
  beyond_there across down =
      ap (λ (v : ℤ). bits_beyond_one v q) (first_there rect (coefficient c 0 0) kept across down)
      ∙ ap (λ (p : ℤ). bits_beyond_one (coefficient c 0 0 rect.y0 rect.x0 -ℤ p) q) (sym (predicted_outside c sx sy index kept))

  pub beyond_across : rect.x1 ≤ rect.x0 → bits_beyond_one (first_residual c sx sy kept) q ≡ 0
  beyond_across none = ap (λ (v : ℤ). bits_beyond_one v q) (none_across rect (coefficient c 0 0) kept none) ∙ beyond_zero q

  pub beyond_down : rect.x0 < rect.x1 → rect.y1 ≤ rect.y0 → bits_beyond_one (first_residual c sx sy kept) q ≡ 0
  beyond_down across none = ap (λ (v : ℤ). bits_beyond_one v q) (none_down rect (coefficient c 0 0) kept across none) ∙ beyond_zero q

  pub luma_least : area rect + bits_beyond_one (first_residual c sx sy kept) q ≤ length (codes_of (rect_values (lowest_value c (tried c sx sy index kept) index) rect))
  luma_least =
      let g : Grid = lowest_value c (tried c sx sy index kept) index in
      let each = each_a_bit (rect_values g rect) in
      let count = length_rect g rect in
      elim (cases_lt rect.x0 rect.x1) [
        | inr none ↦ omega (arith, beyond_across none, each, count)
        | inl across ↦ elim (cases_lt rect.y0 rect.y1) [
          | inr none ↦ omega (arith, beyond_down across none, each, count)
          | inl down ↦ omega (arith, beyond_there across down, rect_first g rect across down)
        ]
      ]

module _ (j : CodedPicture) (sx sy index : ℕ) (kept1 kept2 : Grid) where
  abbrev both_rect : Rect
  both_rect = level_rect j.slicing j.frame.colour sx sy 0

  abbrev both_q : ℕ
  both_q = band_quantiser j.matrix index 0 0

  pub colour_least : 2 * area both_rect + (bits_beyond_one (first_residual (c1_of j) sx sy kept1) both_q + bits_beyond_one (first_residual (c2_of j) sx sy kept2) both_q)
      ≤ length (codes_of (pair_values (lowest_value (c1_of j) (tried (c1_of j) sx sy index kept1) index) (lowest_value (c2_of j) (tried (c2_of j) sx sy index kept2) index) both_rect))
  colour_least =
      let g : Grid = lowest_value (c1_of j) (tried (c1_of j) sx sy index kept1) index in
      let h : Grid = lowest_value (c2_of j) (tried (c2_of j) sx sy index kept2) index in
      let each = each_a_bit (pair_values g h both_rect) in
      let count = length_pairs g h both_rect in
      elim (cases_lt both_rect.x0 both_rect.x1) [
        | inr none ↦ omega (arith, beyond_across (c1_of j) sx sy index kept1 none, beyond_across (c2_of j) sx sy index kept2 none, each, count)
        | inl across ↦ elim (cases_lt both_rect.y0 both_rect.y1) [
          | inr none ↦ omega (arith, beyond_down (c1_of j) sx sy index kept1 across none, beyond_down (c2_of j) sx sy index kept2 across none, each, count)
          | inl down ↦ omega (arith, beyond_there (c1_of j) sx sy index kept1 across down, beyond_there (c2_of j) sx sy index kept2 across down, pair_first g h both_rect across down)
        ]
      ]

-- ---- the bound

pub both : (a b c d : ℕ) → a ≡ b → c ≡ d → let low : Lower = record { luma = a; colour = c } in low ≡ record { luma = b; colour = d }
both a b c d one two = ap (λ (n : ℕ). record { luma = n; colour = c }) one ∙ ap (λ (n : ℕ). record { luma = b; colour = n }) two

-- a residual takes no more at a coarser quantiser
pub beyond_falls : (r : ℤ) (p q : ℕ) → p ≤ q → q ≤ 127 → bits_beyond_one r q ≤ bits_beyond_one r p
beyond_falls r p q le most = omega (arith, code_rises (forward_of r q) (forward_of r p) (coarser r p q le most))

pub reach_no_greater : (j : CodedPicture) (kept : ThreePlanes) (f : FirstResiduals) (sx sy : ℕ) → AreFirst j sx sy kept f → (index : ℕ)
    → ((reach_of j f sx sy index).luma ≤ need (tried_lists j kept sx sy index).luma) × ((reach_of j f sx sy index).colour ≤ need (tried_lists j kept sx sy index).colour)
reach_no_greater j kept f sx sy first index =
    let q : ℕ = band_quantiser j.matrix index 0 0 in
    let l : Grid = tried (luma_of j) sx sy index (at kept.luma) in
    let g : Grid = tried (c1_of j) sx sy index (at kept.c1) in
    let h : Grid = tried (c2_of j) sx sy index (at kept.c2) in
    let one = level_rect j.slicing j.frame.luma sx sy 0 in
    let two = level_rect j.slicing j.frame.colour sx sy 0 in
    let lumas = rect_values (lowest_value (luma_of j) l index) one in
    let colours = pair_values (lowest_value (c1_of j) g index) (lowest_value (c2_of j) h index) two in
    let luma_places = area one + bits_beyond_one f.luma q in
    let colour_places = 2 * area two + (bits_beyond_one f.c1 q + bits_beyond_one f.c2 q) in
    let luma_some : luma_places ≤ length (codes_of lumas) = omega (arith, luma_least (luma_of j) sx sy index (at kept.luma), ap (λ (v : ℤ). bits_beyond_one v q) first.luma) in
    let colour_some : colour_places ≤ length (codes_of colours) = omega (arith, colour_least j sx sy index (at kept.c1) (at kept.c2), ap (λ (v : ℤ). bits_beyond_one v q) first.c1, ap (λ (v : ℤ). bits_beyond_one v q) first.c2) in (
      omega (arith, split_reach (tried_lists j kept sx sy index).luma lumas (flat_map (high_part (luma_of j) index sx sy) (range_with_len 1 (3 * j.slicing.depth))) luma_places (luma_split (luma_of j) l index sx sy) luma_some),
      omega (arith, split_reach (tried_lists j kept sx sy index).colour colours (flat_map (high_pair j index sx sy) (range_with_len 1 (3 * j.slicing.depth))) colour_places (colour_split j g h index sx sy) colour_some),
    )

-- ---- taking the first residual

module _ (r : Rect) (coefficients : Grid) (kept : Raster ℤ) (can : CanTryRect r coefficients kept) (across : r.x0 < r.x1) (down : r.y0 < r.y1) where
  place_in : IsInRect r r.y0 r.x0
  place_in = record { left = omega arith; right = across; top = omega arith; bottom = down }

  pub first_looked : AllLookedAt (λ j i. Within (3 * 2 ^ 27 + 2) (at kept j i)) r.y0 r.x0
  first_looked =
      let all = can.outside r.y0 r.x0 place_in in
      record {
        left = λ some. all.left some (λ here. omega (arith, some, here.left));
        above = λ some. all.above some (λ here. omega (arith, some, here.top));
        corner = λ some more. all.corner some more (λ here. omega (arith, some, here.top));
      }

  pub first_can : AllLookedAt (λ j i. Within (2 ^ 50) (at kept j i)) r.y0 r.x0
  first_can = looked_wider (3 * 2 ^ 27 + 2) (2 ^ 50) (at kept) r.y0 r.x0 (omega arith) first_looked

  pub first_predicted : Within (3 * 2 ^ 27 + 2) (prediction (at kept) r.y0 r.x0)
  first_predicted = prediction_looked (3 * 2 ^ 27 + 2) (at kept) r.y0 r.x0 first_looked

  pub first_coefficient : Within (2 ^ 27) (coefficients r.y0 r.x0)
  first_coefficient = can.small r.y0 r.x0 place_in

-- it stands first in its list
pub first_number : (r : Rect) → 0 ≡ number_in r r.y0 r.x0
first_number r =
    let top : r.y0 - r.y0 ≡ 0 = omega arith in
    let left : r.x0 - r.x0 ≡ 0 = omega arith in
    sym (ap (λ (n : ℕ). n * (r.x1 - r.x0) + (r.x0 - r.x0)) top ∙ omega (arith, left))

-- a difference of such numbers in 64 bits
module _ (c p a b : ℤ) (c_is : a ≡ c) (p_is : b ≡ p) (hc : Within (2 ^ 27) c) (hp : Within (3 * 2 ^ 27 + 2) p) where
  given : to_z w64 (of_z w64 a) -ℤ to_z w64 (of_z w64 b) ≡ c -ℤ p
  given = rw (c_is, p_is, fits (2 ^ 27) c (omega arith) hc, fits (3 * 2 ^ 27 + 2) p (omega arith) hp) refl

  pub difference_fits : FitsSigned w64 (to_z w64 (of_z w64 a) -ℤ to_z w64 (of_z w64 b))
  difference_fits = subst (FitsSigned w64) (sym given) (fits_signed_from_abs w64 (c -ℤ p) (omega (arith, within_abs (4 * 2 ^ 27 + 2) (c -ℤ p) (difference_within (2 ^ 27) c p hc hp))))

  pub difference_is : to_z w64 (of_z w64 (to_z w64 (of_z w64 a) -ℤ to_z w64 (of_z w64 b))) ≡ c -ℤ p
  difference_is = rw given (fits (4 * 2 ^ 27 + 2) (c -ℤ p) (omega arith) (difference_within (2 ^ 27) c p hc hp))

  pub difference_small : unsigned_abs (c -ℤ p) ≤ 2 ^ 36
  difference_small = omega (arith, within_abs (4 * 2 ^ 27 + 2) (c -ℤ p) (difference_within (2 ^ 27) c p hc hp))
