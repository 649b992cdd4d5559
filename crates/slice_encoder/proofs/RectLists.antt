-- The values of a rectangle, listed while its places are restored.
use Rattle.std.proofs.Common.{◌≡◌, ◌≢◌, ◌∙◌, sym, ap, refl, ℕ, zero, suc, ◌+◌, ◌-◌, ◌*◌, ◌<◌, ◌≤◌, List, [], ◌∷◌, ◌++◌, length, take, map, get_or, set, append_assoc, append-nil, arith, inl, inr, ℤ, pos}
use Rattle.std.specs.Prelude.{◌⊎◌}
use Rattle.std.specs.List.{flat_map, range_with_len}
use Rattle.std.proofs.Math.Nat.{mul-lt-mul_of_pos_left, mul-le-mul_left}
use Rattle.std.proofs.lemmas.Nat.{mul-add-lt}
use Rattle.std.proofs.lemmas.Bool.{cases_eq}
use Rattle.std.proofs.lemmas.List.{take_more, get_or-set_same, get_or-set_other, length-set}
use Rattle.std.proofs.lemmas.List.FromFn.{map-range_with_len_more}
use Rattle.planes.specs.declared.Rect.{Rect}
use Rattle.planes.specs.Raster.{Grid, Raster, height, at, with_place}
use Rattle.planes.specs.Rect.{IsInRect}
use Rattle.dc_prediction.specs.Prediction.{prediction}
use Rattle.slice_geometry.specs.SliceOrder.{area, number_in}
use Rattle.slice_encoder.specs.Loop.{residual_of}
use Rattle.slice_encoder.specs.Listing.{rect_values, pair_values}
use Rattle.slice_encoder.proofs.RectSoFar.{Before, TriedSoFar, ListedSoFar}
use Rattle.slice_encoder.proofs.PlaceByPlace.{here_or_before, up_to, predicted_on}
use Rattle.slice_encoder.proofs.Listed.{flat_more, next_row, turned}

-- ---- the numbers of places

-- an earlier place has a smaller number
pub number_before : (r : Rect) (y x j i : ℕ) → IsInRect r y x → IsInRect r j i → Before y x j i → number_in r j i < number_in r y x
number_before r y x j i here there before = elim before as (λ _. number_in r j i < number_in r y x) [
  | inl less ↦ omega (arith, mul-add-lt (j - r.y0) (r.x1 - r.x0) (i - r.x0) (y - r.y0) (omega (arith, less, there.top)) (omega (arith, there.left, there.right)), turned (r.x1 - r.x0) (y - r.y0))
  | inr row ↦ omega (arith, ap (λ (k : ℕ). (k - r.y0) * (r.x1 - r.x0)) row.0, row.1, there.left)
]

pub number_less : (r : Rect) (y x : ℕ) → IsInRect r y x → number_in r y x < area r
number_less r y x here = mul-add-lt (y - r.y0) (r.x1 - r.x0) (x - r.x0) (r.y1 - r.y0) (omega (arith, here.top, here.bottom)) (omega (arith, here.left, here.right))

number_next : (r : Rect) (y x : ℕ) → r.x0 ≤ x → number_in r y (x + 1) ≡ number_in r y x + 1
number_next r y x le = omega arith

-- a row's end is the next row's beginning
pub number_turned : (r : Rect) (y x : ℕ) → r.y0 ≤ y → x - r.x0 ≡ r.x1 - r.x0 → number_in r (y + 1) r.x0 ≡ number_in r y x
number_turned r y x le end =
    let next : y + 1 - r.y0 ≡ y - r.y0 + 1 = omega arith in
    omega (arith, end, ap (λ (k : ℕ). k * (r.x1 - r.x0)) next, next_row (y - r.y0) (r.x1 - r.x0))

one_more : (step n : ℕ) → step * (n + 1) ≡ step * n + step
one_more step n = grind arith

-- where the next place's value stands
pub stepped : (from step : ℕ) (r : Rect) (y x : ℕ) → r.x0 ≤ x → from + step * number_in r y (x + 1) ≡ from + step * number_in r y x + step
stepped from step r y x le = omega (arith, ap (λ (n : ℕ). step * n) (number_next r y x le), one_more step (number_in r y x))

-- the slot of a place lies in the list, and there is room for one step more
pub slot_inside : (r : Rect) (from step y x place had : ℕ) → IsInRect r y x → from < step → step * area r ≤ had → place ≡ from + step * number_in r y x → place < had
slot_inside r from step y x place had here lt room is =
    let n : ℕ = number_in r y x in
    omega (arith, is, lt, room, one_more step n, mul-le-mul_left {m = n + 1} {n = area r} step (omega (arith, number_less r y x here)))

-- a step is no longer than the list
pub step_inside : (r : Rect) (step y x had : ℕ) → IsInRect r y x → step * area r ≤ had → step ≤ had
step_inside r step y x had here room =
    let n : ℕ = number_in r y x in
    omega (arith, room, one_more step n, mul-le-mul_left {m = n + 1} {n = area r} step (omega (arith, number_less r y x here)))

-- ---- one place listed

module _ (g : Grid) (q : ℕ) (r : Rect) (from step y x place : ℕ) (kept : Raster ℤ) (v u : ℤ) (old new : List ℤ) (s : ListedSoFar g q r y x kept from step old new) (here : IsInRect r y x) (lt : y < height kept)
    (some : from < step) (place_is : place ≡ from + step * number_in r y x) (room : place < length new) (is : u ≡ residual_of (g y x) q (prediction (at kept) y x)) where
  abbrev next : Raster ℤ
  next = with_place kept y x v

  other_slot : (j i : ℕ) → IsInRect r j i → Before y x j i → from + step * number_in r j i ≢ place
  other_slot j i there before e =
      omega (arith, e, place_is, mul-lt-mul_of_pos_left {m = number_in r j i} {n = number_in r y x} {k = step} (number_before r y x j i here there before) (omega (arith, some)))

  value_at : (j i : ℕ) → IsInRect r j i → Before y (x + 1) j i → get_or (set new place u) (from + step * number_in r j i) (pos 0) ≡ residual_of (g j i) q (prediction (at next) j i)
  value_at j i there before = elim (here_or_before y x j i before) as (λ _. get_or (set new place u) (from + step * number_in r j i) (pos 0) ≡ residual_of (g j i) q (prediction (at next) j i)) [
    | inl e ↦
        rw (e.0, e.1) (ap (λ (n : ℕ). get_or (set new place u) n (pos 0)) (sym place_is)
        ∙ get_or-set_same new place u (pos 0) room
        ∙ is
        ∙ sym (ap (λ p. residual_of (g y x) q p) (predicted_on kept y x v lt y x (inr (refl, omega arith)))))
    | inr b ↦
        get_or-set_other new place (from + step * number_in r j i) u (pos 0) (other_slot j i there b.0)
        ∙ s.values j i there b.0
        ∙ sym (ap (λ p. residual_of (g j i) q p) (predicted_on kept y x v lt j i (up_to y x j i b.0)))
  ]

  pub listed_next : ListedSoFar g q r y (x + 1) next from step old (set new place u)
  listed_next = record {
    same_length = length-set new place u ∙ s.same_length;
    values = value_at;
    stays = λ n other. get_or-set_other new place n u (pos 0) (λ e. other (number_in r y x) (e ∙ place_is)) ∙ s.stays n other;
  }

-- ---- rows

-- where a walk along a row has ended
pub row_end : (r : Rect) (x : ℕ) → (r.x0 ≤ r.x1 → x ≤ r.x1) → (r.x1 ≤ r.x0 → x ≡ r.x0) → r.x1 ≤ x → x - r.x0 ≡ r.x1 - r.x0
row_end r x some none end = elim (cases_eq (r.x1 - r.x0) 0) [ inl e ↦ omega (arith, e, none (omega (arith, e))) | inr ne ↦ omega (arith, end, some (omega (arith, ne))) ]

-- a row's places are before the next row's
row_before : (r : Rect) (y x j i : ℕ) → x - r.x0 ≡ r.x1 - r.x0 → IsInRect r j i → Before (y + 1) r.x0 j i → Before y x j i
row_before r y x j i end there before = elim before [
  | inl less ↦ elim (nat_below j y (omega (arith, less))) [
    | inl lower ↦ inl lower
    | inr same ↦ inr (same, omega (arith, end, there.left, there.right))
  ]
  | inr row ↦ absurd (omega (arith, row.1, there.left))
]
  where
    nat_below : (j y : ℕ) → j ≤ y → (j < y) ⊎ (j ≡ y)
    nat_below j y le = elim (cases_eq j y) [ inl same ↦ inr same | inr ne ↦ inl (omega (arith, le, ne)) ]

pub tried_row : (g : Grid) (q : ℕ) (r : Rect) (y x : ℕ) (old new : Raster ℤ) → x - r.x0 ≡ r.x1 - r.x0 → TriedSoFar g q r y x old new → TriedSoFar g q r (y + 1) r.x0 old new
tried_row g q r y x old new end s = record {
  same_width = s.same_width;
  same_height = s.same_height;
  done = λ j i there before. s.done j i there (row_before r y x j i end there before);
  small = λ j i there before. s.small j i there (row_before r y x j i end there before);
  stays = λ j i not. s.stays j i (λ there before. not there (elim before [ inl less ↦ inl (omega (arith, less)) | inr row ↦ inl (omega (arith, row.0)) ]));
}

pub listed_row : (g : Grid) (q : ℕ) (r : Rect) (y x : ℕ) (kept : Raster ℤ) (from step : ℕ) (old new : List ℤ) → x - r.x0 ≡ r.x1 - r.x0 → ListedSoFar g q r y x kept from step old new → ListedSoFar g q r (y + 1) r.x0 kept from step old new
listed_row g q r y x kept from step old new end s = record {
  same_length = s.same_length;
  values = λ j i there before. s.values j i there (row_before r y x j i end there before);
  stays = s.stays;
}

-- ---- the front of the list

module _ (l : List ℤ) (row piece : ℕ → ℕ → List ℤ) (y0 s w h : ℕ) (none : (y : ℕ) → row y 0 ≡ []) (grows : (y n : ℕ) → row y (n + 1) ≡ row y n ++ piece y n)
    (more : (k n : ℕ) → k < h → n < w → take (s * (k * w + n) + s) l ≡ take (s * (k * w + n)) l ++ piece (y0 + k) n) where
  abbrev rows : ℕ → List ℤ
  rows k = flat_map (λ y. row y w) (range_with_len y0 k)

  in_row : (k n : ℕ) → k < h → n ≤ w → take (s * (k * w)) l ≡ rows k → take (s * (k * w + n)) l ≡ rows k ++ row (y0 + k) n
  in_row k zero lt le front =
      let same : k * w + 0 ≡ k * w = omega arith in
      ap (λ (m : ℕ). take (s * m) l) same ∙ front ∙ sym (append-nil (rows k)) ∙ sym (ap (λ (t : List ℤ). rows k ++ t) (none (y0 + k)))
  in_row k (suc n) lt le front =
      let next : s * (k * w + suc n) ≡ s * (k * w + n) + s = one_more_in (k * w) n in
      let grown : row (y0 + k) (suc n) ≡ row (y0 + k) n ++ piece (y0 + k) n = ap (λ (m : ℕ). row (y0 + k) m) (let e : suc n ≡ n + 1 = omega arith in e) ∙ grows (y0 + k) n in
      ap (λ (m : ℕ). take m l) next
      ∙ more k n lt (omega arith)
      ∙ ap (λ (t : List ℤ). t ++ piece (y0 + k) n) (in_row k n lt (omega arith) front)
      ∙ append_assoc (rows k) (row (y0 + k) n) (piece (y0 + k) n)
      ∙ sym (ap (λ (t : List ℤ). rows k ++ t) grown)
    where
      one_more_in : (a n : ℕ) → s * (a + suc n) ≡ s * (a + n) + s
      one_more_in a n = grind arith

  pub in_rows : (k : ℕ) → k ≤ h → take (s * (k * w)) l ≡ flat_map (λ y. row y w) (range_with_len y0 k)
  in_rows zero le =
      let no : s * (0 * w) ≡ 0 = grind arith in
      ap (λ (m : ℕ). take m l) no
  in_rows (suc k) le =
      let next : s * (suc k * w) ≡ s * (k * w + w) = grind arith in
      ap (λ (m : ℕ). take m l) next
      ∙ in_row k w (omega arith) (omega arith) (in_rows k (omega arith))
      ∙ sym (ap rows (let e : suc k ≡ k + 1 = omega arith in e) ∙ flat_more (λ y. row y w) y0 k (y0 + k) refl)

number_of_place : (r : Rect) (k n : ℕ) → number_in r (r.y0 + k) (r.x0 + n) ≡ k * (r.x1 - r.x0) + n
number_of_place r k n =
    let y : r.y0 + k - r.y0 ≡ k = omega arith in
    let x : r.x0 + n - r.x0 ≡ n = omega arith in
    rw (y, x) refl

place_in : (r : Rect) (k n : ℕ) → k < r.y1 - r.y0 → n < r.x1 - r.x0 → IsInRect r (r.y0 + k) (r.x0 + n)
place_in r k n lower less = record { left = omega arith; right = omega arith; top = omega arith; bottom = omega arith }

-- places in a row that stand one behind the other
pub rect_in_front : (l : List ℤ) (g : Grid) (r : Rect) → area r ≤ length l → ((j i : ℕ) → IsInRect r j i → get_or l (number_in r j i) (pos 0) ≡ g j i) → take (area r) l ≡ rect_values g r
rect_in_front l g r room values =
    let w : ℕ = r.x1 - r.x0 in
    let h : ℕ = r.y1 - r.y0 in
    let whole : area r ≡ 1 * (h * w) = omega (arith, turned w h) in
    ap (λ (n : ℕ). take n l) whole
    ∙ in_rows l (λ y n. map (g y) (range_with_len r.x0 n)) (λ y n. g y (r.x0 + n) ∷ []) r.y0 1 w h (λ y. refl) (λ y n. map-range_with_len_more (g y) r.x0 n (r.x0 + n) refl)
    (λ k n lower less.
    let p : 1 * (k * w + n) ≡ k * w + n = omega arith in
    let lt : 1 * (k * w + n) < length l = omega (arith, mul-add-lt k w n h lower less, room) in
    let is : 1 * (k * w + n) ≡ number_in r (r.y0 + k) (r.x0 + n) = p ∙ sym (number_of_place r k n) in
    take_more l (1 * (k * w + n)) (pos 0) lt
    ∙ ap (λ v. take (1 * (k * w + n)) l ++ v ∷ []) (ap (λ (m : ℕ). get_or l m (pos 0)) is ∙ values (r.y0 + k) (r.x0 + n) (place_in r k n lower less)))
    h (omega arith)

-- and those of two grids in turn
pub pairs_in_front : (l : List ℤ) (g f : Grid) (r : Rect) → 2 * area r ≤ length l → ((j i : ℕ) → IsInRect r j i → get_or l (2 * number_in r j i) (pos 0) ≡ g j i)
    → ((j i : ℕ) → IsInRect r j i → get_or l (1 + 2 * number_in r j i) (pos 0) ≡ f j i) → take (2 * area r) l ≡ pair_values g f r
pairs_in_front l g f r room ones twos =
    let w : ℕ = r.x1 - r.x0 in
    let h : ℕ = r.y1 - r.y0 in
    let whole : 2 * area r ≡ 2 * (h * w) = omega (arith, turned w h) in
    ap (λ (n : ℕ). take n l) whole
    ∙ in_rows l (λ y n. flat_map (λ x. g y x ∷ f y x ∷ []) (range_with_len r.x0 n)) (λ y n. g y (r.x0 + n) ∷ f y (r.x0 + n) ∷ []) r.y0 2 w h (λ y. refl) (λ y n. flat_more (λ x. g y x ∷ f y x ∷ []) r.x0 n (r.x0 + n) refl)
    (λ k n lower less.
    let p : ℕ = 2 * (k * w + n) in
    let here = place_in r k n lower less in
    let lt : 2 * (k * w + n) + 1 < length l = omega (arith, mul-add-lt k w n h lower less, room) in
    let first : get_or l p (pos 0) ≡ g (r.y0 + k) (r.x0 + n) = ap (λ (m : ℕ). get_or l (2 * m) (pos 0)) (sym (number_of_place r k n)) ∙ ones (r.y0 + k) (r.x0 + n) here in
    let behind : p + 1 ≡ 1 + 2 * (k * w + n) = omega arith in
    let second : get_or l (p + 1) (pos 0) ≡ f (r.y0 + k) (r.x0 + n) = ap (λ (m : ℕ). get_or l m (pos 0)) behind ∙ ap (λ (m : ℕ). get_or l (1 + 2 * m) (pos 0)) (sym (number_of_place r k n)) ∙ twos (r.y0 + k) (r.x0 + n) here in
    let two : p + 2 ≡ p + 1 + 1 = omega arith in
    ap (λ (m : ℕ). take m l) two
    ∙ take_more l (p + 1) (pos 0) lt
    ∙ ap (λ (t : List ℤ). t ++ get_or l (p + 1) (pos 0) ∷ []) (take_more l p (pos 0) (omega (arith, lt)))
    ∙ append_assoc (take p l) (get_or l p (pos 0) ∷ []) (get_or l (p + 1) (pos 0) ∷ [])
    ∙ ap (λ v. take p l ++ (v ∷ get_or l (p + 1) (pos 0) ∷ [])) first
    ∙ ap (λ v. take p l ++ (g (r.y0 + k) (r.x0 + n) ∷ v ∷ [])) second)
    h (omega arith)
