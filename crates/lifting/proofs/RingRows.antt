-- Rows of one length one behind the other: where they lie, and what one that is written leaves of the others.
use Rattle.std.proofs.Common.{◌≡◌, ◌≢◌, ◌∙◌, sym, ap, ℕ, min, ◌+◌, ◌-◌, ◌*◌, ◌%◌, ◌<◌, ◌≤◌, List, ◌++◌, length, take, drop, get_or, ℤ, arith, inl, inr}
use Rattle.std.specs.Prelude.{slice_range}
use Rattle.std.proofs.lemmas.Bool.{cases_lt}
use Rattle.std.proofs.lemmas.List.{get_or_append_left, get_or-append-add, get_or-take, get_or-drop, length-take-le, length-drop, length-append, take-append-drop}
use Rattle.std.proofs.Math.Nat.{mul-le-mul_left, mul-le-mul_right, add-mul}
use borrow.Rule.Slice.PartMut.{mid_of, post_of}
use Rattle.planes.specs.Raster.{Raster, height}
use Rattle.planes.specs.Valued.{valued}
use Rattle.planes.proofs.RowLists.{row_ends}
use Rattle.lifting.specs.Bands.{HasRing}
use Rattle.lifting.specs.Places.{row_grid}

-- a row of a ring that has room for as many rows as a level has, or for m
pub row_inside : (m rows n len k : ℕ) → min m rows * n ≤ len → k < m → k < rows → k * n + n ≤ len
row_inside m rows n len k room lm lr = omega (arith, row_ends n (min m rows) k (omega arith), room)

-- room in a plane's numbers: for m rows of a level that has no more columns than the plane
pub room_inside : (m rows n w h : ℕ) → min m rows ≤ h → n ≤ w → min m rows * n ≤ h * w
room_inside m rows n w h lh lw = omega (arith, mul-le-mul_right {m = min m rows} {n = h} n lh, mul-le-mul_left h lw)

-- a scratch that has a place for each row of a ring of four has as many rows
pub ring_height : {X : Type 0} (rows : ℕ) (p : Raster X) → 1 ≤ rows → HasRing rows p → min 4 rows ≤ height p
ring_height rows p some ring = let last : min 4 rows - 1 < height p = let is : (min 4 rows - 1) % 4 ≡ min 4 rows - 1 = omega arith in rw is at (ring (min 4 rows - 1) (omega arith)) in omega arith

-- how far row k lies behind row y
behind_row : (y k n x : ℕ) → y < k → k * n + x ≡ y * n + (n + ((k - y - 1) * n + x))
behind_row y k n x lt =
    let whole : y + 1 + (k - y - 1) ≡ k = omega arith in
    omega (arith, ap (λ (m : ℕ). m * n) whole, add-mul (y + 1) (k - y - 1) n, add-mul y 1 n)

-- rows of n places, cut before row y and behind it
pub record AreCut {X : Type 0} (y n : ℕ) (xs front mid back : List X) : Type 0 where
  pub whole : xs ≡ front ++ (mid ++ back)
  pub before : length front ≡ y * n
  pub long : length mid ≡ n

pub cut_twice : {X : Type 0} {xs front rest mid back : List X} (y n : ℕ) → xs ≡ front ++ rest → rest ≡ mid ++ back → length front ≡ y * n → length mid ≡ n → AreCut y n xs front mid back
cut_twice {front = front} y n first second before long = record { whole = first ∙ ap (λ (l : List _). front ++ l) second; before = before; long = long }

-- a part in its place
pub cut_part : {X : Type 0} (y n start : ℕ) → start ≡ y * n → (xs : List X) → y * n + n ≤ length xs → AreCut y n xs (take start xs) (mid_of start (start + n - start) xs) (post_of start (start + n - start) xs)
cut_part y n start at_row xs inside =
    cut_twice y n (sym (take-append-drop start xs)) (sym (take-append-drop (start + n - start) (drop start xs))) (length-take-le start xs (omega arith) ∙ at_row)
    (ap (λ (k : ℕ). length (take k (drop start xs))) (omega arith) ∙ length-take-le n (drop start xs) (omega (arith, length-drop start xs)))

module _ {X : Type 0} (value : X → ℤ) (none : X) {y n : ℕ} {xs front mid back : List X} (cut : AreCut y n xs front mid back) where
  -- the numbers of a row before the one that is cut out, and behind it
  in_front : (r : List X) (k x : ℕ) → k < y → x < n → get_or (front ++ r) (k * n + x) none ≡ get_or front (k * n + x) none
  in_front r k x lt lx = get_or_append_left front r none (k * n + x) (omega (arith, row_ends n y k lt, cut.before))

  in_back : (m : List X) → length m ≡ n → (k x : ℕ) → y < k → get_or (front ++ (m ++ back)) (k * n + x) none ≡ get_or back ((k - y - 1) * n + x) none
  in_back m same k x lt =
      let rest_at = (k - y - 1) * n + x in
      ap (λ (i : ℕ). get_or (front ++ (m ++ back)) i none) (behind_row y k n x lt ∙ ap (λ (i : ℕ). i + (n + rest_at)) (sym cut.before))
      ∙ get_or-append-add front (m ++ back) (n + rest_at) none
      ∙ ap (λ (i : ℕ). get_or (m ++ back) (i + rest_at) none) (sym same)
      ∙ get_or-append-add m back rest_at none

  of_whole : (j x : ℕ) → row_grid value none n (front ++ (mid ++ back)) j x ≡ row_grid value none n xs j x
  of_whole j x = ap (λ (l : List X). row_grid value none n l j x) (sym cut.whole)

  -- a row that is read beside it
  front_row : (k : ℕ) → k < y → (x : ℕ) → x < n → valued value none (slice_range front (k * n) (k * n + n)) x ≡ row_grid value none n xs k x
  front_row k lt x lx =
      ap value (get_or-take (k * n + n - k * n) (drop (k * n) front) x none (omega arith) ∙ get_or-drop (k * n) front x none ∙ sym (in_front (mid ++ back) k x lt lx))
      ∙ of_whole k x

  back_row : (k : ℕ) → y < k → (x : ℕ) → x < n → valued value none (slice_range back ((k - y - 1) * n) ((k - y - 1) * n + n)) x ≡ row_grid value none n xs k x
  back_row k lt x lx =
      let at = (k - y - 1) * n in
      ap value (get_or-take (at + n - at) (drop at back) x none (omega arith) ∙ get_or-drop at back x none ∙ sym (in_back mid cut.long k x lt))
      ∙ of_whole k x

  pub row_beside : (k : ℕ) → k ≢ y → (r : List X) → (k < y → r ≡ slice_range front (k * n) (k * n + n)) → (y < k → r ≡ slice_range back ((k - y - 1) * n) ((k - y - 1) * n + n))
      → (x : ℕ) → x < n → valued value none r x ≡ row_grid value none n xs k x
  row_beside k ne r early late x lx = elim (cases_lt k y) [
    | inl lt ↦ ap (λ (l : List X). valued value none l x) (early lt) ∙ front_row k lt x lx
    | inr le ↦ let lt : y < k = omega arith in ap (λ (l : List X). valued value none l x) (late lt) ∙ back_row k lt x lx
  ]

  -- the row itself, as another one stands in its place, and as it was
  pub own_row : (m : List X) → length m ≡ n → (x : ℕ) → x < n → row_grid value none n (front ++ (m ++ back)) y x ≡ valued value none m x
  own_row m same x lx =
      ap value
      (ap (λ (i : ℕ). get_or (front ++ (m ++ back)) (i + x) none) (sym cut.before) ∙ get_or-append-add front (m ++ back) x none ∙ get_or_append_left m back none x (omega (arith, same, lx)))

  pub own_before : (x : ℕ) → x < n → valued value none mid x ≡ row_grid value none n xs y x
  own_before x lx = sym (own_row mid cut.long x lx) ∙ of_whole y x

  -- all others stay
  pub other_rows : (m : List X) → length m ≡ n → (j x : ℕ) → j ≢ y → x < n → row_grid value none n (front ++ (m ++ back)) j x ≡ row_grid value none n xs j x
  other_rows m same j x ne lx = elim (cases_lt j y) [
    | inl lt ↦ ap value (in_front (m ++ back) j x lt lx ∙ sym (in_front (mid ++ back) j x lt lx)) ∙ of_whole j x
    | inr le ↦ let lt : y < j = omega arith in ap value (in_back m same j x lt ∙ sym (in_back mid cut.long j x lt)) ∙ of_whole j x
  ]

-- there is room for a row behind the one that is cut out
pub back_inside : {X : Type 0} {y n : ℕ} {xs front mid back : List X} → AreCut y n xs front mid back → (k : ℕ) → k * n + n ≤ length xs → y < k → (k - y - 1) * n + n ≤ length back
back_inside {y = y} {n = n} {front = front} {mid = mid} {back = back} cut k inside lt =
    omega (arith, behind_row y k n n lt, inside, ap (λ (l : List _). length l) cut.whole, length-append front (mid ++ back), length-append mid back, cut.before, cut.long)
