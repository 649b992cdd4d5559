-- A list that holds a slice's coefficients is the coefficients of its bands, one band behind the other.
use Rattle.std.proofs.Common.{◌≡◌, ◌∙◌, refl, sym, ap, subst, ℕ, zero, suc, ◌+◌, ◌-◌, ◌*◌, ◌^◌, ◌<◌, ◌≤◌, List, [], ◌∷◌, ◌++◌, length, take, drop, map, get_or, arith, ℤ, pos}
use Rattle.std.specs.List.{All, flat_map, range_with_len}
use Rattle.std.proofs.Math.Seq.{take-add, take-length}
use Rattle.std.proofs.lemmas.List.{get_or-drop, length-drop}
use Rattle.std.proofs.lemmas.List.Elements.{All-nil, All-cons, All-append}
use Rattle.std.proofs.lemmas.List.FromFn.{get_or-map-range_with_len, length-map-range_with_len}
use Rattle.std.proofs.lemmas.Bool.Decides.{nat_tests}
use Rattle.planes.specs.Numbers.{Within}
use Rattle.planes.specs.Raster.{Grid, at}
use Rattle.planes.specs.Rect.{IsInRect}
use Rattle.planes.specs.Subbands.{BandStack}
use Rattle.planes.specs.declared.Rect.{Rect}
use Rattle.slice_geometry.specs.declared.Size.{Size}
use Rattle.slice_geometry.specs.Slicing.{Slicing}
use Rattle.slice_geometry.specs.SliceOrder.{level_rect, area, places_to, places_before, number_in, level_of, orient_of, numbered}
use Rattle.slice_geometry.proofs.NumberedBands.{index-numbered, band-exists}
use Rattle.slice_encoder.specs.Listing.{row_values, rect_values}
use Rattle.slice_encoder.specs.Gathering.{raw_part, raw_before, CanGatherAll}
use Rattle.slice_encoder.specs.SliceLists.{HoldsSlice}
use Rattle.slice_encoder.proofs.Gathers.{raw_more, raw_count, raw_within, more_length}
use Rattle.slice_encoder.proofs.Numbered.{rows_at}
use Rattle.slice_encoder.proofs.RectLists.{rect_in_front}

-- the value of a place, by its number
pub value_numbered : (g : Grid) (r : Rect) (y x : ℕ) → IsInRect r y x → get_or (rect_values g r) (number_in r y x) (pos 0) ≡ g y x
value_numbered g r y x h =
    let row : r.y0 + (y - r.y0) ≡ y = omega (arith, h.top) in
    rows_at (row_values g r) (r.x1 - r.x0) r.y0 (r.y1 - r.y0) (y - r.y0) (x - r.x0) (pos 0)
    (λ j. length-map-range_with_len (g j) r.x0 (r.x1 - r.x0)) (omega (arith, h.top, h.bottom)) (omega (arith, h.left, h.right))
    ∙ get_or-map-range_with_len (g (r.y0 + (y - r.y0))) r.x0 (r.x1 - r.x0) (x - r.x0) x (pos 0) (omega (arith, h.left, h.right)) (omega (arith, h.left))
    ∙ ap (λ (j : ℕ). g j x) row

-- ---- one band behind the other

module _ (s : Slicing) (size : Size) (bands : BandStack) (sx sy : ℕ) where
  abbrev front : ℕ → List ℤ
  front k = raw_before s size bands sx sy k

  in_level : (below n : ℕ) → n < 3 → length (front (3 * below + 1 + n)) ≡ places_to s size sx sy below + n * area (level_rect s size sx sy (suc below))
  in_level below zero few =
      let none : 3 * below + 1 + 0 ≡ 3 * below + 1 = omega arith in
      ap (λ (j : ℕ). length (front j)) none ∙ raw_count s size bands sx sy below ∙ omega arith
  in_level below (suc n) few =
      let next : 3 * below + 1 + suc n ≡ 3 * below + 1 + n + 1 = omega arith in
      let a : ℕ = area (level_rect s size sx sy (suc below)) in
      let sum : places_to s size sx sy below + n * a + a ≡ places_to s size sx sy below + suc n * a = grind arith in
      ap (λ (j : ℕ). length (front j)) next
      ∙ more_length s size bands sx sy (3 * below + 1 + n) (suc below) (omega (arith, few))
      ∙ ap (λ (m : ℕ). m + a) (in_level below n (omega (arith, few)))
      ∙ sum

  -- where an upper band begins
  start_of : (below n k : ℕ) → k ≡ 3 * below + 1 + n → n < 3 → level_of k ≡ suc below → orient_of k ≡ n + 1 → places_before s size sx sy (level_of k) (orient_of k) ≡ length (front k)
  start_of below n k is few level_is orient_is =
      let back : n + 1 - 1 ≡ n = omega arith in
      ap (λ (l : ℕ). places_before s size sx sy l (orient_of k)) level_is
      ∙ ap (λ (o : ℕ). places_before s size sx sy (suc below) o) orient_is
      ∙ ap (λ (m : ℕ). places_to s size sx sy below + m * area (level_rect s size sx sy (suc below))) back
      ∙ sym (in_level below n few)
      ∙ ap (λ (j : ℕ). length (front j)) (sym is)

  -- where a band begins
  pub start_is : (k : ℕ) → places_before s size sx sy (level_of k) (orient_of k) ≡ length (front k)
  start_is zero = refl
  start_is (suc m) =
      let k : ℕ = suc m in
      let level : ℕ = level_of k in
      let orient : ℕ = orient_of k in
      let o : orient ≡ k + 3 - 3 * level = grind (arith, nat_tests) in
      start_of (level - 1) (orient - 1) k (omega (arith, o)) (omega (arith, o)) (omega arith) (omega (arith, o))

  -- ---- what is small

  all_mapped : (f : ℕ → ℤ) → ((x : ℕ) → Within (2 ^ 27) (f x)) → (xs : List ℕ) → All (Within (2 ^ 27)) (map f xs)
  all_mapped f small [] = All-nil (Within (2 ^ 27))
  all_mapped f small (x ∷ xs) = All-cons (Within (2 ^ 27)) (f x) (map f xs) (small x) (all_mapped f small xs)

  all_joined : (f : ℕ → List ℤ) → ((y : ℕ) → All (Within (2 ^ 27)) (f y)) → (ys : List ℕ) → All (Within (2 ^ 27)) (flat_map f ys)
  all_joined f small [] = All-nil (Within (2 ^ 27))
  all_joined f small (y ∷ ys) = All-append (Within (2 ^ 27)) (f y) (flat_map f ys) (small y) (all_joined f small ys)

  rect_small : (g : Grid) (r : Rect) → ((y x : ℕ) → Within (2 ^ 27) (g y x)) → All (Within (2 ^ 27)) (rect_values g r)
  rect_small g r small = all_joined (row_values g r) (λ y. all_mapped (g y) (small y) (range_with_len r.x0 (r.x1 - r.x0))) (range_with_len r.y0 (r.y1 - r.y0))

  raw_small : CanGatherAll s size bands → (k : ℕ) → k ≤ 3 * s.depth + 1 → All (Within (2 ^ 27)) (front k)
  raw_small can zero le = All-nil (Within (2 ^ 27))
  raw_small can (suc k) le =
      let next : suc k ≡ k + 1 = omega arith in
      let part = rect_small (at (numbered bands k)) (level_rect s size sx sy (level_of k)) (λ y x. can.small k y x (omega (arith, le))) in
      subst (λ (t : List ℤ). All (Within (2 ^ 27)) t) (sym (ap front next ∙ raw_more s size bands sx sy k)) (All-append (Within (2 ^ 27)) (front k) (raw_part s size bands sx sy k) (raw_small can k (omega (arith, le))) part)

  -- ---- a list that holds the slice

  module _ (list : List ℤ) (holds : HoldsSlice s size bands sx sy list) where
    part_is : (k : ℕ) → k < 3 * s.depth + 1 → take (area (level_rect s size sx sy (level_of k))) (drop (length (front k)) list) ≡ raw_part s size bands sx sy k
    part_is k lt =
        let r : Rect = level_rect s size sx sy (level_of k) in
        let from : ℕ = length (front k) in
        let end = more_length s size bands sx sy k (level_of k) refl in
        let whole = raw_within s size bands sx sy (k + 1) (3 * s.depth + 1) (omega (arith, lt)) in
        rect_in_front (drop from list) (at (numbered bands k)) r
        (omega (arith, length-drop from list, end, whole, raw_count s size bands sx sy s.depth, holds.count))
        (λ j i here.
        get_or-drop from list (number_in r j i) (pos 0)
        ∙ ap (λ (n : ℕ). get_or list (n + number_in r j i) (pos 0)) (sym (start_is k))
        ∙ holds.each (level_of k) (orient_of k) j i (band-exists s.depth k lt) here
        ∙ ap (λ (n : ℕ). at (numbered bands n) j i) (index-numbered k))

    run_front : (k : ℕ) → k ≤ 3 * s.depth + 1 → take (length (front k)) list ≡ front k
    run_front zero le = refl
    run_front (suc k) le =
        let next : suc k ≡ k + 1 = omega arith in
        let a : ℕ = area (level_rect s size sx sy (level_of k)) in
        let end : length (front (suc k)) ≡ length (front k) + a = ap (λ (n : ℕ). length (front n)) next ∙ more_length s size bands sx sy k (level_of k) refl in
        ap (λ (n : ℕ). take n list) end
        ∙ take-add (length (front k)) a list
        ∙ ap (λ (t : List ℤ). t ++ take a (drop (length (front k)) list)) (run_front k (omega (arith, le)))
        ∙ ap (λ (t : List ℤ). front k ++ t) (part_is k (omega (arith, le)))
        ∙ sym (ap front next ∙ raw_more s size bands sx sy k)

    pub run_is : list ≡ front (3 * s.depth + 1)
    run_is =
        let all : length list ≡ length (front (3 * s.depth + 1)) = omega (arith, holds.count, raw_count s size bands sx sy s.depth) in
        sym (take-length list) ∙ ap (λ (n : ℕ). take n list) all ∙ run_front (3 * s.depth + 1) (omega arith)

    pub run_small : CanGatherAll s size bands → All (Within (2 ^ 27)) list
    run_small can = subst (λ (t : List ℤ). All (Within (2 ^ 27)) t) (sym run_is) (raw_small can (3 * s.depth + 1) (omega arith))

    -- a list with this one at its front
    pub run_in_front : (values : List ℤ) → take (length list) values ≡ list → take (length (front (3 * s.depth + 1))) values ≡ front (3 * s.depth + 1)
    run_in_front values is = ap (λ (t : List ℤ). take (length t) values) (sym run_is) ∙ is ∙ run_is
