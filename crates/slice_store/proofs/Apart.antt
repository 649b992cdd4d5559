-- Each place lies in the run of its slice, and no two are one.
use Rattle.std.proofs.Common.{◌≡◌, ap, sym, subst, ℕ, zero, suc, ◌+◌, ◌%◌, ◌<◌, ◌≤◌, length, get_or, arith, inl, inr, mod-lt}
use Rattle.std.proofs.lemmas.Bool.{cases_lt}
use Rattle.planes.specs.Rect.{IsInRect}
use Rattle.planes.specs.Subbands.{BandExists}
use Rattle.slice_geometry.specs.SliceOrder.{level_rect, place_number, place_count}
use Rattle.slice_geometry.specs.SliceLaws.{IsHeld}
use Rattle.slice_geometry.proofs.Places.{held}
use Rattle.slice_store.specs.Store.{Store}
use Rattle.slice_store.specs.Places.{band, row_with, column_with, numbers_before, run_start, place_of, IsPlace, IsStoreSound, AreTogether}
use Rattle.slice_store.specs.Laws.{IsInRun, AreSame}
use Rattle.slice_store.proofs.Numbers.{below, levels_rise, numbers_apart}

pub level_inside : (depth level orient : ℕ) → BandExists depth level orient → level ≤ depth
level_inside depth level orient (inl e) = omega (arith, e.0)
level_inside depth level orient (inr e) = e.1

pub orient_most : (depth level orient : ℕ) → BandExists depth level orient → orient ≤ 3
orient_most depth level orient (inl e) = omega (arith, e.1)
orient_most depth level orient (inr e) = e.3

module _ {X : Type 0} (s : Store X) where
  abbrev pub start : ℕ → ℕ
  start k = get_or s.starts k 0

  abbrev pub number : ℕ → ℕ → ℕ → ℕ → ℕ → ℕ → ℕ
  number sx sy l o y x = place_number s.slicing s.size sx sy l o y x

  pub more_before : (sx tx sy : ℕ) → sx ≤ tx → numbers_before s.slicing s.size sx sy ≤ numbers_before s.slicing s.size tx sy
  more_before sx zero sy le = let e : sx ≡ 0 = omega (arith, le) in subst (λ (n : ℕ). numbers_before s.slicing s.size n sy ≤ 0) (sym e) (omega arith)
  more_before sx (suc tx) sy le = elim (cases_lt sx (suc tx)) as (λ _. numbers_before s.slicing s.size sx sy ≤ numbers_before s.slicing s.size (suc tx) sy) [
    | inl less ↦ omega (arith, more_before sx tx sy (omega (arith, less)))
    | inr not ↦
        let same : sx ≡ suc tx = omega (arith, le, not) in
        subst (λ (n : ℕ). numbers_before s.slicing s.size n sy ≤ numbers_before s.slicing s.size (suc tx) sy) (sym same) (omega arith)
  ]

  pub one_more : (sx sy : ℕ) → numbers_before s.slicing s.size (sx + 1) sy ≡ numbers_before s.slicing s.size sx sy + place_count s.slicing s.size sx sy
  one_more sx sy = let e : sx + 1 ≡ suc sx = omega arith in ap (λ (n : ℕ). numbers_before s.slicing s.size n sy) e

  module _ (sound : IsStoreSound s) where
    pub starts_rise : (k m : ℕ) → k ≤ m → m ≤ s.strips → start k ≤ start m
    starts_rise k zero le most = let e : k ≡ 0 = omega (arith, le) in subst (λ (n : ℕ). start n ≤ start 0) (sym e) (omega arith)
    starts_rise k (suc m) le most = elim (cases_lt k (suc m)) as (λ _. start k ≤ start (suc m)) [
      | inl less ↦
          let e : m + 1 ≡ suc m = omega arith in
          let step : start m ≤ start (suc m) = subst (λ (n : ℕ). start m ≤ start n) e (sound.rises m (omega (arith, most))) in
          omega (arith, starts_rise k m (omega (arith, less)) (omega (arith, most)), step)
      | inr not ↦
          let same : k ≡ suc m = omega (arith, le, not) in
          subst (λ (n : ℕ). start n ≤ start (suc m)) (sym same) (omega arith)
    ]

    pub in_slice : (level orient y x : ℕ) → IsPlace s level orient y x → IsHeld s.slicing (band s level) y x
    in_slice level orient y x place = held s.slicing (band s level) y x sound.cut.slices place.column place.row

    -- the number of a place in a slice ends with its run
    pub in_count : (level orient y x sx sy : ℕ) → BandExists s.slicing.depth level orient
        → IsInRect (level_rect s.slicing s.size sx sy level) y x → number sx sy level orient y x < place_count s.slicing s.size sx sy
    in_count level orient y x sx sy exists inside =
        omega (
          arith,
          below s.slicing s.size sx sy s.slicing.depth level orient y x exists inside,
          levels_rise s.slicing s.size sx sy level s.slicing.depth (level_inside s.slicing.depth level orient exists),
        )

    -- and a run with its strip
    pub run_inside : (sx sy : ℕ) → sx < s.slicing.slices_x → sy < s.slicing.slices_y → run_start s (sx + 1) sy ≤ start (sy % s.strips + 1)
    run_inside sx sy across down = omega (arith, more_before (sx + 1) s.slicing.slices_x sy (omega (arith, across)), sound.fits sy down)

    pub strip_inside : (sy : ℕ) → start (sy % s.strips + 1) ≤ length s.numbers
    strip_inside sy =
        let less : sy % s.strips < s.strips = mod-lt sy sound.some in
        omega (arith, starts_rise (sy % s.strips + 1) s.strips (omega (arith, less)) (omega arith), sound.last)

    pub in_run : (level orient y x : ℕ) → IsPlace s level orient y x → IsInRun s level orient y x
    in_run level orient y x place =
        let sx : ℕ = column_with s level x in
        let sy : ℕ = row_with s level y in
        let h = in_slice level orient y x place in
        let lt = in_count level orient y x sx sy place.exists h.inside in
        let to : place_of s level orient y x < run_start s (sx + 1) sy = omega (arith, lt, one_more sx sy) in
        record { from = omega arith; to = to; inside = omega (arith, to, run_inside sx sy h.across h.down, strip_inside sy) }

    -- of two places in one strip's row, or in two strips, the first in order stands in front
    strips_in_turn : (l o y x m p j i : ℕ) → IsPlace s l o y x → IsPlace s m p j i
        → row_with s l y % s.strips < row_with s m j % s.strips → place_of s l o y x < place_of s m p j i
    strips_in_turn l o y x m p j i a b less =
        let h = in_slice l o y x a in
        let end = run_inside (column_with s l x) (row_with s l y) h.across h.down in
        let last : row_with s m j % s.strips < s.strips = mod-lt (row_with s m j) sound.some in
        let rise = starts_rise (row_with s l y % s.strips + 1) (row_with s m j % s.strips) (omega (arith, less)) (omega (arith, last)) in
        omega (arith, (in_run l o y x a).to, end, rise, (in_run m p j i b).from)

    runs_in_turn : (l o y x m p j i : ℕ) → IsPlace s l o y x → IsPlace s m p j i → row_with s l y ≡ row_with s m j
        → column_with s l x < column_with s m i → place_of s l o y x < place_of s m p j i
    runs_in_turn l o y x m p j i a b same less =
        let more = more_before (column_with s l x + 1) (column_with s m i) (row_with s l y) (omega (arith, less)) in
        let to : place_of s l o y x < run_start s (column_with s m i) (row_with s l y) = omega (arith, (in_run l o y x a).to, more) in
        let from : run_start s (column_with s m i) (row_with s l y) ≤ place_of s m p j i = subst (λ (r : ℕ). run_start s (column_with s m i) r ≤ place_of s m p j i) (sym same) (in_run m p j i b).from in
        omega (arith, to, from)

    same_strip : (l o y x m p j i : ℕ) → IsPlace s l o y x → IsPlace s m p j i → place_of s l o y x ≡ place_of s m p j i → row_with s l y % s.strips ≡ row_with s m j % s.strips
    same_strip l o y x m p j i a b e = elim (cases_lt (row_with s l y % s.strips) (row_with s m j % s.strips)) [
      | inl less ↦ absurd (omega (arith, e, strips_in_turn l o y x m p j i a b less))
      | inr not ↦ elim (cases_lt (row_with s m j % s.strips) (row_with s l y % s.strips)) [
        | inl less ↦ absurd (omega (arith, e, strips_in_turn m p j i l o y x b a less))
        | inr neither ↦ omega (arith, not, neither)
      ]
    ]

    same_run : (l o y x m p j i : ℕ) → IsPlace s l o y x → IsPlace s m p j i → row_with s l y ≡ row_with s m j → place_of s l o y x ≡ place_of s m p j i → column_with s l x ≡ column_with s m i
    same_run l o y x m p j i a b same e = elim (cases_lt (column_with s l x) (column_with s m i)) [
      | inl less ↦ absurd (omega (arith, e, runs_in_turn l o y x m p j i a b same less))
      | inr not ↦ elim (cases_lt (column_with s m i) (column_with s l x)) [
        | inl less ↦ absurd (omega (arith, e, runs_in_turn m p j i l o y x b a (sym same) less))
        | inr neither ↦ omega (arith, not, neither)
      ]
    ]

    pub places_apart : (l o y x m p j i : ℕ) → IsPlace s l o y x → IsPlace s m p j i → AreTogether s (row_with s l y) (row_with s m j)
        → place_of s l o y x ≡ place_of s m p j i → AreSame l o y x m p j i
    places_apart l o y x m p j i a b together e =
        let h = in_slice l o y x a in
        let g = in_slice m p j i b in
        let sx : ℕ = column_with s l x in
        let sy : ℕ = row_with s l y in
        let rows : sy ≡ row_with s m j = together (same_strip l o y x m p j i a b e) in
        let columns : sx ≡ column_with s m i = same_run l o y x m p j i a b rows e in
        let P : ℕ → ℕ → Type 0 = λ c r. IsInRect (level_rect s.slicing s.size c r m) j i → place_of s l o y x ≡ run_start s c r + number c r m p j i → AreSame l o y x m p j i in
        subst (λ (c : ℕ). P c (row_with s m j)) columns (subst (λ (r : ℕ). P sx r) rows
        (λ inside same. numbers_apart s.slicing s.size sx sy s.slicing.depth l o y x m p j i a.exists b.exists h.inside inside (omega (arith, same))))
        g.inside e
