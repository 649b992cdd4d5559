-- Beyond its rows and columns a plane shows 0.
use Rattle.std.specs.List.{range_with_len}
use Rattle.std.proofs.Common.{◌≡◌, ◌∙◌, sym, ap, subst, map, ℕ, ◌<◌, ◌≤◌, List, [], ℤ, pos, length, get_or, arith, inl, inr}
use Rattle.std.proofs.lemmas.Bool.{cases_lt}
use Rattle.std.proofs.lemmas.List.{get_or_past}
use Rattle.planes.specs.Raster.{Raster, height, row_of, at}
use Rattle.planes.specs.Subbands.{BandExists, band_of}
use Rattle.slice_store.specs.Store.{Store}
use Rattle.slice_store.specs.Places.{band, number_at}
use Rattle.slice_store.specs.Stack.{tabulated, stack_of}
use Rattle.slice_store.proofs.Stacked.{get_or-counted, length-counted, band_shown}

abbrev pub HasWholeRows : Raster ℤ → Type 0
HasWholeRows p = (y : ℕ) → y < height p → length (row_of p y) ≡ p.w

pub below_rows : (p : Raster ℤ) (y x : ℕ) → height p ≤ y → at p y x ≡ pos 0
below_rows p y x past = ap (λ (r : List ℤ). get_or r x (pos 0)) (get_or_past p.rows y [] past)

pub right_of_row : (p : Raster ℤ) (y x : ℕ) → HasWholeRows p → y < height p → p.w ≤ x → at p y x ≡ pos 0
right_of_row p y x whole ly past = get_or_past (row_of p y) x (pos 0) (omega (arith, whole y ly, past))

-- two planes of one size that have the same at a place inside have the same there, and past their edges
pub same_here : (p q : Raster ℤ) → HasWholeRows p → HasWholeRows q → p.w ≡ q.w → height p ≡ height q → (y x : ℕ) → (y < height p → x < p.w → at p y x ≡ at q y x) → at p y x ≡ at q y x
same_here p q p_whole q_whole same_width same_height y x same = elim (cases_lt y (height p)) [
  | inl ly ↦ elim (cases_lt x p.w) [
    | inl lx ↦ same ly lx
    | inr past ↦ right_of_row p y x p_whole ly past ∙ sym (right_of_row q y x q_whole (omega (arith, ly, same_height)) (omega (arith, past, same_width)))
  ]
  | inr past ↦ below_rows p y x past ∙ sym (below_rows q y x (omega (arith, past, same_height)))
]

whole_table : (w h : ℕ) (f : ℕ → ℕ → ℤ) → HasWholeRows (tabulated w h f)
whole_table w h f y ly =
    let short : y < h = subst (λ (n : ℕ). y < n) (length-counted _ 0 h) ly in
    ap length (get_or-counted (λ y. map (λ x. f y x) (range_with_len 0 w)) 0 h y [] short) ∙ length-counted _ 0 w

pub whole_rows : {X : Type 0} (value : X → ℤ) (none : X) (s : Store X) (level orient : ℕ) → BandExists s.slicing.depth level orient → HasWholeRows (band_of (stack_of value none s) level orient)
whole_rows value none s level orient exists =
    subst HasWholeRows (sym (band_shown value none s level orient exists)) (whole_table (band s level).w (band s level).h (number_at value none s level orient))
