-- The number of a place in a slice's order.
use Rattle.std.proofs.Common.{◌≡◌, ◌∙◌, subst, ap, ℕ, zero, suc, ◌+◌, ◌-◌, ◌*◌, ◌<◌, ◌≤◌, List, ◌++◌, length, get_or, arith, inl, inr}
use Rattle.std.specs.List.{flat_map, range_with_len}
use Rattle.std.proofs.lemmas.Bool.{cases_lt}
use Rattle.std.proofs.lemmas.List.{get_or_append_left, get_or-append-add}
use Rattle.std.proofs.lemmas.List.FromFn.{get_or-map-range_with_len, length-map-range_with_len}
use Rattle.planes.specs.declared.Rect.{Rect}
use Rattle.planes.specs.Rect.{IsInRect}
use Rattle.slice_geometry.specs.declared.Size.{Size}
use Rattle.slice_geometry.specs.Slicing.{Slicing}
use Rattle.slice_geometry.specs.SliceOrder.{level_rect, area, places_to, number_in, place_number}
use Rattle.slice_encoder.specs.Order.{Place, row_places, rect_places, places_of}
use Rattle.slice_encoder.proofs.Listed.{next_row}
use Rattle.slice_encoder.proofs.RectLists.{number_less}
use Rattle.slice_encoder.proofs.WholeTrial.{length_rect_places, length_places}

abbrev place : ℕ → ℕ → ℕ → ℕ → Place
place level orient y x = record { level = level; orient = orient; y = y; x = x }

-- rows of one length
pub rows_at : {X : Type 0} (f : ℕ → List X) (w a n k i : ℕ) (d : X) → ((j : ℕ) → length (f j) ≡ w) → k < n → i < w → get_or (flat_map f (range_with_len a n)) (k * w + i) d ≡ get_or (f (a + k)) i d
rows_at f w a zero k i d long lt inside = absurd (omega arith)
rows_at f w a (suc n) zero i d long lt inside =
    let index : 0 * w + i ≡ i = omega arith in
    let same : a ≡ a + 0 = omega arith in
    ap (λ (m : ℕ). get_or (flat_map f (range_with_len a (suc n))) m d) index
    ∙ get_or_append_left (f a) (flat_map f (range_with_len (a + 1) n)) d i (omega (arith, long a))
    ∙ ap (λ (m : ℕ). get_or (f m) i d) same
rows_at f w a (suc n) (suc k) i d long lt inside =
    let index : suc k * w + i ≡ length (f a) + (k * w + i) = omega (arith, long a, next_row k w) in
    let same : a + 1 + k ≡ a + suc k = omega arith in
    ap (λ (m : ℕ). get_or (flat_map f (range_with_len a (suc n))) m d) index
    ∙ get_or-append-add (f a) (flat_map f (range_with_len (a + 1) n)) (k * w + i) d
    ∙ rows_at f w (a + 1) n k i d long (omega arith) inside
    ∙ ap (λ (m : ℕ). get_or (f m) i d) same

rect_at : (level orient : ℕ) (r : Rect) (y x : ℕ) (d : Place) → IsInRect r y x → get_or (rect_places level orient r) (number_in r y x) d ≡ place level orient y x
rect_at level orient r y x d h =
    let row : r.y0 + (y - r.y0) ≡ y = omega (arith, h.top) in
    rows_at (row_places level orient r) (r.x1 - r.x0) r.y0 (r.y1 - r.y0) (y - r.y0) (x - r.x0) d
    (λ j. length-map-range_with_len (λ i. place level orient j i) r.x0 (r.x1 - r.x0)) (omega (arith, h.top, h.bottom)) (omega (arith, h.left, h.right))
    ∙ get_or-map-range_with_len (λ i. place level orient (r.y0 + (y - r.y0)) i) r.x0 (r.x1 - r.x0) (x - r.x0) x d (omega (arith, h.left, h.right)) (omega (arith, h.left))
    ∙ ap (λ j. place level orient j x) row

-- the three bands of a level
three_at : (level orient : ℕ) (r : Rect) (y x : ℕ) (d : Place) → 1 ≤ orient → orient ≤ 3 → IsInRect r y x
    → get_or (rect_places level 1 r ++ (rect_places level 2 r ++ rect_places level 3 r)) ((orient - 1) * area r + number_in r y x) d ≡ place level orient y x
three_at level zero r y x d some most h = absurd (omega arith)
three_at level (suc zero) r y x d some most h =
    let index : (1 - 1) * area r + number_in r y x ≡ number_in r y x = omega arith in
    ap (λ (m : ℕ). get_or (rect_places level 1 r ++ (rect_places level 2 r ++ rect_places level 3 r)) m d) index
    ∙ get_or_append_left (rect_places level 1 r) (rect_places level 2 r ++ rect_places level 3 r) d (number_in r y x) (omega (arith, length_rect_places level 1 r, number_less r y x h))
    ∙ rect_at level 1 r y x d h
three_at level (suc (suc zero)) r y x d some most h =
    let index : (2 - 1) * area r + number_in r y x ≡ length (rect_places level 1 r) + number_in r y x = omega (arith, length_rect_places level 1 r) in
    ap (λ (m : ℕ). get_or (rect_places level 1 r ++ (rect_places level 2 r ++ rect_places level 3 r)) m d) index
    ∙ get_or-append-add (rect_places level 1 r) (rect_places level 2 r ++ rect_places level 3 r) (number_in r y x) d
    ∙ get_or_append_left (rect_places level 2 r) (rect_places level 3 r) d (number_in r y x) (omega (arith, length_rect_places level 2 r, number_less r y x h))
    ∙ rect_at level 2 r y x d h
three_at level (suc (suc (suc zero))) r y x d some most h =
    let index : (3 - 1) * area r + number_in r y x ≡ length (rect_places level 1 r) + (length (rect_places level 2 r) + number_in r y x) = omega (arith, length_rect_places level 1 r, length_rect_places level 2 r) in
    ap (λ (m : ℕ). get_or (rect_places level 1 r ++ (rect_places level 2 r ++ rect_places level 3 r)) m d) index
    ∙ get_or-append-add (rect_places level 1 r) (rect_places level 2 r ++ rect_places level 3 r) (length (rect_places level 2 r) + number_in r y x) d
    ∙ get_or-append-add (rect_places level 2 r) (rect_places level 3 r) (number_in r y x) d
    ∙ rect_at level 3 r y x d h
three_at level (suc (suc (suc (suc n)))) r y x d some most h = absurd (omega arith)

module _ (s : Slicing) (size : Size) (sx sy : ℕ) where
  abbrev rect : ℕ → Rect
  rect level = level_rect s size sx sy level

  lowest_before : (top : ℕ) → area (rect 0) ≤ places_to s size sx sy top
  lowest_before zero = omega arith
  lowest_before (suc top) = omega (arith, lowest_before top)

  level_before : (level top : ℕ) → level < top → places_to s size sx sy level + 3 * area (rect (suc level)) ≤ places_to s size sx sy top
  level_before level zero lt = absurd (omega arith)
  level_before level (suc top) lt = elim (cases_lt level top) as (λ _. places_to s size sx sy level + 3 * area (rect (suc level)) ≤ places_to s size sx sy (suc top)) [
    | inl less ↦ omega (arith, level_before level top less)
    | inr not ↦
        let same : level ≡ top = omega arith in
        subst (λ (n : ℕ). places_to s size sx sy level + 3 * area (rect (suc level)) ≤ places_to s size sx sy n + 3 * area (rect (suc n))) same (omega arith)
  ]

  pub lowest_at : (top y x : ℕ) (d : Place) → IsInRect (rect 0) y x → get_or (places_of s size sx sy top) (place_number s size sx sy 0 0 y x) d ≡ place 0 0 y x
  lowest_at zero y x d h =
      let index : 0 + number_in (rect 0) y x ≡ number_in (rect 0) y x = omega arith in
      ap (λ (m : ℕ). get_or (rect_places 0 0 (rect 0)) m d) index ∙ rect_at 0 0 (rect 0) y x d h
  lowest_at (suc top) y x d h =
      get_or_append_left (places_of s size sx sy top) (rect_places (suc top) 1 (rect (suc top)) ++ (rect_places (suc top) 2 (rect (suc top)) ++ rect_places (suc top) 3 (rect (suc top)))) d
      (place_number s size sx sy 0 0 y x) (omega (arith, length_places s size sx sy top, lowest_before top, number_less (rect 0) y x h))
      ∙ lowest_at top y x d h

  part_less : (level orient y x : ℕ) → 1 ≤ orient → orient ≤ 3 → IsInRect (rect (suc level)) y x → (orient - 1) * area (rect (suc level)) + number_in (rect (suc level)) y x < 3 * area (rect (suc level))
  part_less level zero y x some most h = absurd (omega arith)
  part_less level (suc zero) y x some most h = omega (arith, number_less (rect (suc level)) y x h)
  part_less level (suc (suc zero)) y x some most h = omega (arith, number_less (rect (suc level)) y x h)
  part_less level (suc (suc (suc zero))) y x some most h = omega (arith, number_less (rect (suc level)) y x h)
  part_less level (suc (suc (suc (suc n)))) y x some most h = absurd (omega arith)

  top_at : (level orient y x : ℕ) (d : Place) → 1 ≤ orient → orient ≤ 3 → IsInRect (rect (suc level)) y x
      → get_or (places_of s size sx sy (suc level)) (place_number s size sx sy (suc level) orient y x) d ≡ place (suc level) orient y x
  top_at level orient y x d some most h =
      let r = rect (suc level) in
      let index : place_number s size sx sy (suc level) orient y x ≡ length (places_of s size sx sy level) + ((orient - 1) * area r + number_in r y x) = omega (arith, length_places s size sx sy level) in
      ap (λ (m : ℕ). get_or (places_of s size sx sy (suc level)) m d) index
      ∙ get_or-append-add (places_of s size sx sy level) (rect_places (suc level) 1 r ++ (rect_places (suc level) 2 r ++ rect_places (suc level) 3 r)) ((orient - 1) * area r + number_in r y x) d
      ∙ three_at (suc level) orient r y x d some most h

  pub higher_at : (top level orient y x : ℕ) (d : Place) → level < top → 1 ≤ orient → orient ≤ 3 → IsInRect (rect (suc level)) y x
      → get_or (places_of s size sx sy top) (place_number s size sx sy (suc level) orient y x) d ≡ place (suc level) orient y x
  higher_at zero level orient y x d lt some most h = absurd (omega arith)
  higher_at (suc top) level orient y x d lt some most h = elim (cases_lt level top) as (λ _. get_or (places_of s size sx sy (suc top)) (place_number s size sx sy (suc level) orient y x) d ≡ place (suc level) orient y x) [
    | inl less ↦
        get_or_append_left (places_of s size sx sy top) (rect_places (suc top) 1 (rect (suc top)) ++ (rect_places (suc top) 2 (rect (suc top)) ++ rect_places (suc top) 3 (rect (suc top)))) d
        (place_number s size sx sy (suc level) orient y x) (omega (arith, length_places s size sx sy top, level_before level top less, part_less level orient y x some most h))
        ∙ higher_at top level orient y x d less some most h
    | inr not ↦
        let same : level ≡ top = omega arith in
        subst (λ (n : ℕ). get_or (places_of s size sx sy (suc n)) (place_number s size sx sy (suc level) orient y x) d ≡ place (suc level) orient y x) same (top_at level orient y x d some most h)
  ]
