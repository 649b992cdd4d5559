-- Rows of one list, of which one may lie beside it: taken out of its place, put back, and lent.
use Rattle.std.proofs.Common.{◌≡◌, ◌≢◌, sym, ap, ◌∙◌, subst, ℕ, ◌+◌, ◌*◌, ◌<◌, ◌≤◌, List, [], ◌++◌, length, get_or, set, take, drop, arith, inl, inr, Vec, Global}
use native.Mathlib.Nat.{zero-mul}
use Rattle.std.proofs.lemmas.Bool.{cases_eq}
use Rattle.std.proofs.lemmas.List.{length-set, set-set, set-get_or, get_or-set_same, get_or-set_other, set_past, nil_from_length}
use Rattle.std.specs.Prelude.{slice_range}
use Rattle.std.specs.List.{flat_map}
use Rattle.std.specs.Vec.{with_items}
use Rattle.planes.specs.Raster.{Raster, height, row_of, over, with_row}
use Rattle.planes.specs.LendingParts.{with_part}
use Rattle.planes.specs.declared.row_store.Rows.TheInside.{Inside}
use Rattle.planes.specs.Inside.{rows_of, shown, raster_of, AreSoundRows, numbers_of, with_numbers}
use Rattle.planes.proofs.RasterLemmas.{over_whole}
use Rattle.planes.proofs.RowLists.{row_ends, length-rows_of, row_part, length_part, rows_of-with_part, rows_joined, whole_part}

length-shown : {X : Type 0} (w h : ℕ) (xs : List X) (lent : ℕ) (s : List X) → length (shown w h xs lent s) ≡ h
length-shown w h xs lent s = length-set (rows_of w h xs) lent s ∙ length-rows_of w h xs

-- no row is out
pub shown_past : {X : Type 0} (w h : ℕ) (xs : List X) (lent : ℕ) (s : List X) → h ≤ lent → shown w h xs lent s ≡ rows_of w h xs
shown_past w h xs lent s le = set_past (rows_of w h xs) lent s (omega (arith, le, length-rows_of w h xs))

pub row_lent : {X : Type 0} (w h y : ℕ) (xs s : List X) → y < h → get_or (shown w h xs y s) y [] ≡ s
row_lent w h y xs s lt = get_or-set_same (rows_of w h xs) y s [] (omega (arith, lt, length-rows_of w h xs))

pub row_beside : {X : Type 0} (w h k : ℕ) (xs : List X) (lent : ℕ) (s : List X) → k < h → k ≢ lent → get_or (shown w h xs lent s) k [] ≡ slice_range xs (k * w) (k * w + w)
row_beside w h k xs lent s lt ne = get_or-set_other (rows_of w h xs) lent k s [] ne ∙ row_part w h k xs lt

-- the spare row put back
pub put_back : {X : Type 0} (w h lent : ℕ) (xs s : List X) → lent < h → length xs ≡ h * w → length s ≡ w → rows_of w h (with_part xs (lent * w) w s) ≡ shown w h xs lent s
put_back w h lent xs s lt long same =
    let row = get_or (rows_of w h xs) lent [] in
    let ends = row_ends w h lent lt in
    let width : length row ≡ w = ap length (row_part w h lent xs lt) ∙ length_part (lent * w) w xs (omega (arith, ends, long)) in
    rows_of-with_part w h lent xs s lt long ∙ ap (set (rows_of w h xs) lent) (over_whole row s (same ∙ sym width))

-- a row copied out of its place
pub taken_out : {X : Type 0} (w h y : ℕ) (xs s : List X) → y < h → s ≡ slice_range xs (y * w) (y * w + w) → shown w h xs y s ≡ rows_of w h xs
taken_out w h y xs s lt is = ap (set (rows_of w h xs) y) (is ∙ sym (row_part w h y xs lt)) ∙ set-get_or (rows_of w h xs) y []

-- ---- rows and what they show
pub height_is : {X : Type 0} (p : Inside X) (q : Raster X) → raster_of p ≡ q → p.h ≡ height q
height_is p q is = sym (length-shown p.w p.h p.numbers p.lent p.spare.items) ∙ ap height is

pub inside : {X : Type 0} (p : Inside X) (q : Raster X) → raster_of p ≡ q → (y : ℕ) → y < height q → y < p.h
inside p q is y lt = omega (arith, lt, height_is p q is)

pub no_numbers : {X : Type 0} (p : Inside X) (q : Raster X) → AreSoundRows p → raster_of p ≡ q → height q ≡ 0 → p.numbers ≡ []
no_numbers p q sound is none =
    nil_from_length p.numbers (sound.count ∙ ap (λ n. n * p.w) (height_is p q is ∙ none) ∙ zero-mul p.w)

-- each row that is shown has the width
pub length-row : {X : Type 0} (p : Inside X) (q : Raster X) → AreSoundRows p → raster_of p ≡ q → (y : ℕ) → y < height q → length (row_of q y) ≡ q.w
length-row {X} p q sound is y lt =
    let P : Raster X → Type 0 = λ r. length (row_of r y) ≡ r.w in
    let within = inside p q is y lt in
    let ends = row_ends p.w p.h y within in
    subst P is (elim (cases_eq y p.lent) as (λ _. length (row_of (raster_of p) y) ≡ p.w) [
      | inl e ↦ ap (λ k. length (get_or (shown p.w p.h p.numbers k p.spare.items) y [])) (sym e) ∙ ap length (row_lent p.w p.h y p.numbers p.spare.items within) ∙ sound.spare_width
      | inr ne ↦ ap length (row_beside p.w p.h y p.numbers p.lent p.spare.items within ne) ∙ length_part (y * p.w) p.w p.numbers (omega (arith, ends, sound.count))
    ])

-- a row that is lent in its place, where none is out
pub given_in_place : {X : Type 0} (p : Inside X) (q : Raster X) → raster_of p ≡ q → (xs : List X) (y start lent : ℕ) → y < p.h → p.h ≤ lent → start ≡ y * p.w → length xs ≡ p.h * p.w → rows_of p.w p.h xs ≡ shown p.w p.h p.numbers p.lent p.spare.items
    → (new : List X) → raster_of {X = X} (record { w = p.w; h = p.h; lent = lent; numbers = with_part xs start p.w new; spare = p.spare }) ≡ with_row q y new
given_in_place p q is xs y start lent lt past at_row long same new =
    ap (λ rows. record { w = p.w; rows = rows })
    (ap (λ i. shown p.w p.h (with_part xs i p.w new) lent p.spare.items) at_row
    ∙ shown_past p.w p.h (with_part xs (y * p.w) p.w new) lent p.spare.items past
    ∙ rows_of-with_part p.w p.h y xs new lt long
    ∙ ap (λ l. set l y (over (get_or l y []) new)) same)
    ∙ ap (λ r. with_row r y new) is

-- what a holder leaves in the spare row is shown as row y
pub given_back : {X : Type 0} (p : Inside X) (q : Raster X) → raster_of p ≡ q → (xs : List X) (y : ℕ) (spare : Vec X Global) → shown p.w p.h xs y spare.items ≡ shown p.w p.h p.numbers p.lent p.spare.items → spare.items ≡ get_or (shown p.w p.h p.numbers p.lent p.spare.items) y []
    → (new : List X) → raster_of {X = X} (record { w = p.w; h = p.h; lent = y; numbers = xs; spare = with_items spare new }) ≡ with_row q y new
given_back {X} p q is xs y spare same taken new =
    let before : List (List X) = shown p.w p.h p.numbers p.lent p.spare.items in
    ap (λ rows. record { w = p.w; rows = rows })
    (ap (λ n. set (rows_of p.w p.h xs) y (take n (new ++ drop (length new) spare.items))) spare.ok.0
    ∙ ap (λ r. set (rows_of p.w p.h xs) y (over r new)) taken
    ∙ sym (set-set (rows_of p.w p.h xs) y spare.items (over (get_or before y []) new))
    ∙ ap (λ l. set l y (over (get_or before y []) new)) same)
    ∙ ap (λ r. with_row r y new) is

-- ---- all numbers, lent in their place

pub numbers_shown : {X : Type 0} (p : Inside X) (q : Raster X) → raster_of p ≡ q → (xs : List X) → length xs ≡ p.h * p.w → rows_of p.w p.h xs ≡ shown p.w p.h p.numbers p.lent p.spare.items → xs ≡ numbers_of q
numbers_shown p q is xs long same = sym (rows_joined p.w p.h xs long) ∙ ap (flat_map (λ row. row)) same ∙ ap numbers_of is

pub all_given : {X : Type 0} (p : Inside X) (q : Raster X) → raster_of p ≡ q → (xs : List X) (count lent : ℕ) → p.h ≤ lent → count ≡ p.h * p.w → length xs ≡ p.h * p.w → xs ≡ numbers_of q
    → (new : List X) → raster_of {X = X} (record { w = p.w; h = p.h; lent = lent; numbers = with_part xs 0 count new; spare = p.spare }) ≡ with_numbers q new
all_given {X} p q is xs count lent past all long same new =
    ap (λ rows. record { w = p.w; rows = rows })
    (shown_past p.w p.h (with_part xs 0 count new) lent p.spare.items past
    ∙ ap (rows_of p.w p.h) (whole_part count xs new (long ∙ sym all) ∙ ap (λ (l : List X). over l new) same))
    ∙ ap (λ (n : ℕ). record { w = p.w; rows = rows_of p.w n (over (numbers_of q) new) }) (height_is p q is)
    ∙ ap (λ (n : ℕ). record { w = n; rows = rows_of n (height q) (over (numbers_of q) new) }) (ap (λ (r : Raster X). r.w) is)
