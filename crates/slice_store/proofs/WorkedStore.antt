-- A worked store, by evaluation: bands of three by three numbers in two by two slices, whose columns and rows are unequal.
use Rattle.std.proofs.Common.{◌≡◌, ◌+◌, ◌*◌, ◌<◌, ◌≤◌, ◌^◌, ℕ, zero, suc, [], ◌∷◌, List, get_or, refl, ℤ, pos, inl, inr, arith}
use Rattle.std.proofs.lemmas.Int.{ints}
use Rattle.planes.specs.Bounded.{IsWithin}
use Rattle.planes.specs.Raster.{Raster, height, at}
use Rattle.planes.specs.Rect.{IsInRect}
use Rattle.planes.specs.Subbands.{BandExists, band_of, subband_length}
use Rattle.slice_geometry.specs.declared.Size.{Size}
use Rattle.slice_geometry.specs.Slicing.{Slicing}
use Rattle.slice_geometry.specs.SliceOrder.{level_rect, place_number}
use Rattle.slice_store.specs.Store.{Store}
use Rattle.slice_store.specs.Places.{band, row_with, column_with, numbers_before, run_start, place_of, AreTogether}
use Rattle.slice_store.specs.Sides.{left, top, wide, tall, piece, AreEven}
use Rattle.slice_store.specs.Cut.{IsTable}
use Rattle.slice_store.specs.Room.{part_room, strip_room, row_numbers, strip_start, AreStarts}
use Rattle.slice_store.specs.Writing.{with_numbers, ShowsRun}
use Rattle.slice_store.specs.Stack.{stack_of, HoldsSlice, IsSlicePut}
use Rattle.slice_store.specs.declared.short_bands.ShortBands.{ShortBands}
use Rattle.slice_store.specs.ShortBands.{short_stack, IsShortSound}
use Rattle.slice_store.proofs.Stacked.{agree}

abbrev cut : Slicing
cut = record { depth = 1; slices_x = 2; slices_y = 2; a = 1; b = 1 }

-- padded to six by six
abbrev size : Size
size = record { w = 5; h = 6 }

-- so many numbers in turn
abbrev counted : ℕ → ℕ → List ℤ
counted zero from = []
counted (suc n) from = pos from ∷ counted n (suc from)

-- each row of slices in its strip, and one strip for both
abbrev whole : Store ℤ
whole = record { slicing = cut; size = size; strips = 2; starts = 0 ∷ 12 ∷ 36 ∷ []; numbers = counted 36 0 }

abbrev ring : Store ℤ
ring = record { slicing = cut; size = size; strips = 1; starts = 0 ∷ 24 ∷ []; numbers = counted 24 0 }

bands_are : band whole 1 ≡ record { w = 3; h = 3 }
bands_are = refl

-- the second slice has columns 1 and 2
sides : (left cut size 1 1 ≡ 1) × (wide cut size 1 1 ≡ 2) × (top cut size 0 1 ≡ 1) × (tall cut size 0 1 ≡ 2)
sides = (refl, refl, refl, refl)

held : (column_with whole 1 2 ≡ 1) × (row_with whole 1 0 ≡ 0) × (row_with whole 1 1 ≡ 1)
held = (refl, refl, refl)

before : (numbers_before cut size 1 0 ≡ 4) × (row_numbers cut size 0 ≡ 12) × (row_numbers cut size 1 ≡ 24)
before = (refl, refl, refl)

-- LH in row 1 and column 2: behind 12 numbers of the row above, 8 of the slice in front, 4 of LL, 4 of HL, and one of its own
place : (run_start whole 1 1 ≡ 20) × (piece whole 1 2 1 1 1 ≡ 28) × (place_of whole 1 2 1 2 ≡ 29)
place = (refl, refl, refl)

-- In a ring of one strip the second row of slices stands where the first stood.
place_in_ring : (place_of ring 1 2 1 2 ≡ 17) × (place_of ring 0 0 0 0 ≡ place_of ring 0 0 1 0) × (AreTogether ring 0 1 → ⊥)
place_in_ring = (refl, refl, λ beside. omega (arith, beside refl))

-- so all that stands in the bands
abbrev three : ℕ → ℕ → ℕ → List ℤ
three a b c = pos a ∷ pos b ∷ pos c ∷ []

abbrev square : List ℤ → List ℤ → List ℤ → Raster ℤ
square a b c = record { w = 3; rows = a ∷ b ∷ c ∷ [] }

shown : stack_of (λ z. z) (pos 0) whole ≡ record {
  depth = 1;
  bands =
      square (three 0 4 5) (three 12 20 21) (three 13 22 23)
      ∷ square (three 1 6 7) (three 14 24 25) (three 15 26 27)
      ∷ square (three 2 8 9) (three 16 28 29) (three 17 30 31)
      ∷ square (three 3 10 11) (three 18 32 33) (three 19 34 35)
      ∷ [];
}
shown = refl

-- the table of the left edges, level by level
lefts : IsTable (0 ∷ 1 ∷ 3 ∷ 0 ∷ 1 ∷ 3 ∷ []) (left cut size) 2 3
lefts = record { size = refl; each = each } where
  each : (level i : ℕ) → level < 2 → i < 3 → get_or (0 ∷ 1 ∷ 3 ∷ 0 ∷ 1 ∷ 3 ∷ []) (level * 3 + i) 0 ≡ left cut size level i
  each zero zero ll li = refl
  each zero (suc zero) ll li = refl
  each zero (suc (suc zero)) ll li = refl
  each (suc zero) zero ll li = refl
  each (suc zero) (suc zero) ll li = refl
  each (suc zero) (suc (suc zero)) ll li = refl
  each level (suc (suc (suc i))) ll li = absurd (omega (arith, li))
  each (suc (suc level)) i ll li = absurd (omega (arith, ll))

uneven : AreEven cut size → ⊥
uneven even = omega (arith, even 0 (omega arith))

-- a strip of the ring has room for two rows of each band
room : (part_room cut size 1 ≡ 6) × (strip_room cut size 1 ≡ 24)
room = (refl, refl)

-- strips for both rows of slices, and one
strips_are : (strip_start cut size 2 1 ≡ 12) × (strip_start cut size 2 2 ≡ 36) × (strip_start cut size 1 1 ≡ 24)
strips_are = (refl, refl, refl)

starts : AreStarts (0 ∷ 12 ∷ 36 ∷ []) cut size 2
starts = record { count = refl; each = each } where
  each : (k : ℕ) → k ≤ 2 → get_or (0 ∷ 12 ∷ 36 ∷ []) k 0 ≡ strip_start cut size 2 k
  each zero le = refl
  each (suc zero) le = refl
  each (suc (suc zero)) le = refl
  each (suc (suc (suc k))) le = absurd (omega (arith, le))

-- the first slice: one number of each band
first_slice : HoldsSlice (λ z. z) (pos 0) cut size (stack_of (λ z. z) (pos 0) whole) 0 0 (counted 4 0)
first_slice = record { count = refl; each = each } where
  each : (level orient y x : ℕ) → BandExists 1 level orient → IsInRect (level_rect cut size 0 0 level) y x
      → get_or (counted 4 0) (place_number cut size 0 0 level orient y x) (pos 0) ≡ at (band_of (stack_of (λ z. z) (pos 0) whole) level orient) y x
  each zero zero zero zero exists inside = refl
  each zero zero zero (suc x) exists inside = absurd (omega (arith, inside.right))
  each zero zero (suc y) x exists inside = absurd (omega (arith, inside.bottom))
  each zero (suc orient) y x (inl e) inside = absurd (omega (arith, e.1))
  each zero (suc orient) y x (inr e) inside = absurd (omega (arith, e.0))
  each (suc zero) zero y x (inl e) inside = absurd (omega (arith, e.0))
  each (suc zero) zero y x (inr e) inside = absurd (omega (arith, e.2))
  each (suc zero) (suc orient) (suc y) x exists inside = absurd (omega (arith, inside.bottom))
  each (suc zero) (suc orient) zero (suc x) exists inside = absurd (omega (arith, inside.right))
  each (suc zero) (suc zero) zero zero exists inside = refl
  each (suc zero) (suc (suc zero)) zero zero exists inside = refl
  each (suc zero) (suc (suc (suc zero))) zero zero exists inside = refl
  each (suc zero) (suc (suc (suc (suc orient)))) zero zero (inl e) inside = absurd (omega (arith, e.0))
  each (suc zero) (suc (suc (suc (suc orient)))) zero zero (inr e) inside = absurd (omega (arith, e.3))
  each (suc (suc level)) orient y x (inl e) inside = absurd (omega (arith, e.0))
  each (suc (suc level)) orient y x (inr e) inside = absurd (omega (arith, e.1))

-- and as what it shows
first_run : ShowsRun (λ z. z) (pos 0) whole 0 0 (λ k. pos k)
first_run zero zero zero zero place column row = refl
first_run zero zero zero (suc x) place column row = absurd (omega (arith, column))
first_run zero zero (suc y) x place column row = absurd (omega (arith, row))
first_run zero (suc orient) y x place column row = absurd (no_band_above orient place.exists)
  where
    no_band_above : (orient : ℕ) → BandExists 1 0 (suc orient) → ⊥
    no_band_above orient (inl e) = omega (arith, e.1)
    no_band_above orient (inr e) = omega (arith, e.0)
first_run (suc zero) orient (suc y) x place column row = absurd (omega (arith, row))
first_run (suc zero) orient zero (suc x) place column row = absurd (omega (arith, column))
first_run (suc zero) zero zero zero place column row = absurd (no_band_below place.exists)
  where
    no_band_below : BandExists 1 1 0 → ⊥
    no_band_below (inl e) = omega (arith, e.0)
    no_band_below (inr e) = omega (arith, e.2)
first_run (suc zero) (suc zero) zero zero place column row = refl
first_run (suc zero) (suc (suc zero)) zero zero place column row = refl
first_run (suc zero) (suc (suc (suc zero))) zero zero place column row = refl
first_run (suc zero) (suc (suc (suc (suc orient)))) zero zero place column row = absurd (no_band_behind orient place.exists)
  where
    no_band_behind : (orient : ℕ) → BandExists 1 1 (suc (suc (suc (suc orient)))) → ⊥
    no_band_behind orient (inl e) = omega (arith, e.0)
    no_band_behind orient (inr e) = omega (arith, e.3)
first_run (suc (suc level)) orient y x place column row = absurd (no_level level orient place.exists)
  where
    no_level : (level orient : ℕ) → BandExists 1 (suc (suc level)) orient → ⊥
    no_level level orient (inl e) = omega (arith, e.0)
    no_level level orient (inr e) = omega (arith, e.1)

-- the first slice is put: its numbers are 100 to 103 now
abbrev put : Store ℤ
put = with_numbers whole (pos 100 ∷ pos 101 ∷ pos 102 ∷ pos 103 ∷ counted 32 4)

-- only the first places differ
first_differ : (a b : ℤ) (row : List ℤ) (rows : List (List ℤ)) (y x : ℕ) → ((y ≡ 0) × (x ≡ 0) → ⊥)
    → at (record { w = 3; rows = (a ∷ row) ∷ rows }) y x ≡ at (record { w = 3; rows = (b ∷ row) ∷ rows }) y x
first_differ a b row rows zero zero other = absurd (other (refl, refl))
first_differ a b row rows zero (suc x) other = refl
first_differ a b row rows (suc y) x other = refl

first_put : IsSlicePut cut size 0 0 (λ k. pos (100 + k)) (stack_of (λ z. z) (pos 0) whole) (stack_of (λ z. z) (pos 0) put)
first_put = record { sizes = agree (λ z. z) (pos 0) whole put.numbers; here = here; others = others } where
  here : (level orient y x : ℕ) → BandExists 1 level orient → IsInRect (level_rect cut size 0 0 level) y x
      → at (band_of (stack_of (λ z. z) (pos 0) put) level orient) y x ≡ pos (100 + place_number cut size 0 0 level orient y x)
  here zero zero zero zero exists inside = refl
  here zero zero zero (suc x) exists inside = absurd (omega (arith, inside.right))
  here zero zero (suc y) x exists inside = absurd (omega (arith, inside.bottom))
  here zero (suc orient) y x (inl e) inside = absurd (omega (arith, e.1))
  here zero (suc orient) y x (inr e) inside = absurd (omega (arith, e.0))
  here (suc zero) zero y x (inl e) inside = absurd (omega (arith, e.0))
  here (suc zero) zero y x (inr e) inside = absurd (omega (arith, e.2))
  here (suc zero) (suc orient) (suc y) x exists inside = absurd (omega (arith, inside.bottom))
  here (suc zero) (suc orient) zero (suc x) exists inside = absurd (omega (arith, inside.right))
  here (suc zero) (suc zero) zero zero exists inside = refl
  here (suc zero) (suc (suc zero)) zero zero exists inside = refl
  here (suc zero) (suc (suc (suc zero))) zero zero exists inside = refl
  here (suc zero) (suc (suc (suc (suc orient)))) zero zero (inl e) inside = absurd (omega (arith, e.0))
  here (suc zero) (suc (suc (suc (suc orient)))) zero zero (inr e) inside = absurd (omega (arith, e.3))
  here (suc (suc level)) orient y x (inl e) inside = absurd (omega (arith, e.0))
  here (suc (suc level)) orient y x (inr e) inside = absurd (omega (arith, e.1))

  -- the slice has the first place of each band
  inside_there : (level : ℕ) → level ≤ 1 → (y x : ℕ) → (y ≡ 0) × (x ≡ 0) → IsInRect (level_rect cut size 0 0 level) y x
  inside_there zero le y x e = record { left = omega arith; right = omega (arith, e.1); top = omega arith; bottom = omega (arith, e.0) }
  inside_there (suc zero) le y x e = record { left = omega arith; right = omega (arith, e.1); top = omega arith; bottom = omega (arith, e.0) }
  inside_there (suc (suc level)) le y x e = absurd (omega (arith, le))

  others : (level orient y x : ℕ) → BandExists 1 level orient → (IsInRect (level_rect cut size 0 0 level) y x → ⊥)
      → at (band_of (stack_of (λ z. z) (pos 0) put) level orient) y x ≡ at (band_of (stack_of (λ z. z) (pos 0) whole) level orient) y x
  others zero zero y x exists out = first_differ (pos 100) (pos 0) (pos 4 ∷ pos 5 ∷ []) (three 12 20 21 ∷ three 13 22 23 ∷ []) y x (λ e. out (inside_there 0 (omega arith) y x e))
  others zero (suc orient) y x (inl e) out = absurd (omega (arith, e.1))
  others zero (suc orient) y x (inr e) out = absurd (omega (arith, e.0))
  others (suc zero) zero y x (inl e) out = absurd (omega (arith, e.0))
  others (suc zero) zero y x (inr e) out = absurd (omega (arith, e.2))
  others (suc zero) (suc zero) y x exists out = first_differ (pos 101) (pos 1) (pos 6 ∷ pos 7 ∷ []) (three 14 24 25 ∷ three 15 26 27 ∷ []) y x (λ e. out (inside_there 1 (omega arith) y x e))
  others (suc zero) (suc (suc zero)) y x exists out = first_differ (pos 102) (pos 2) (pos 8 ∷ pos 9 ∷ []) (three 16 28 29 ∷ three 17 30 31 ∷ []) y x (λ e. out (inside_there 1 (omega arith) y x e))
  others (suc zero) (suc (suc (suc zero))) y x exists out = first_differ (pos 103) (pos 3) (pos 10 ∷ pos 11 ∷ []) (three 18 32 33 ∷ three 19 34 35 ∷ []) y x (λ e. out (inside_there 1 (omega arith) y x e))
  others (suc zero) (suc (suc (suc (suc orient)))) y x (inl e) out = absurd (omega (arith, e.0))
  others (suc zero) (suc (suc (suc (suc orient)))) y x (inr e) out = absurd (omega (arith, e.3))
  others (suc (suc level)) orient y x (inl e) out = absurd (omega (arith, e.0))
  others (suc (suc level)) orient y x (inr e) out = absurd (omega (arith, e.1))

-- it is not put where the first number of the next slice is another too
spilled : IsSlicePut cut size 0 0 (λ k. pos (100 + k)) (stack_of (λ z. z) (pos 0) whole) (stack_of (λ z. z) (pos 0) (with_numbers whole (counted 36 100))) → ⊥
spilled is_put =
    let e : pos 104 ≡ pos 4 = is_put.others 0 0 0 1 (inl (refl, refl)) (λ inside. omega (arith, inside.right)) in
    omega (arith, ints, e)

-- with a lowest band of its own: what the slices hold for it is not shown
abbrev shorts : ShortBands
shorts = record { lowest = square (three 50 51 52) (three 53 54 55) (three 56 57 58); slices = whole }

short_shown : short_stack shorts ≡ record {
  depth = 1;
  bands =
      square (three 50 51 52) (three 53 54 55) (three 56 57 58)
      ∷ square (three 1 6 7) (three 14 24 25) (three 15 26 27)
      ∷ square (three 2 8 9) (three 16 28 29) (three 17 30 31)
      ∷ square (three 3 10 11) (three 18 32 33) (three 19 34 35)
      ∷ [];
}
short_shown = refl

-- so it is sound, since each row of slices has a strip; in the ring it is not
in_narrow : (n : ℕ) → n ≤ 58 → IsWithin (pos (2 ^ 18)) (pos n)
in_narrow n le = record { low = omega (arith, ints); high = omega (arith, ints, le) }

short_sound : IsShortSound shorts
short_sound = record { sizes = record { widths = widths; heights = heights }; narrow = narrow; whole = omega arith } where
  widths : (level orient : ℕ) → BandExists 1 level orient → (band_of (short_stack shorts) level orient).w ≡ subband_length 1 level 6
  widths zero zero exists = refl
  widths zero (suc orient) (inl e) = absurd (omega (arith, e.1))
  widths zero (suc orient) (inr e) = absurd (omega (arith, e.0))
  widths (suc zero) zero (inl e) = absurd (omega (arith, e.0))
  widths (suc zero) zero (inr e) = absurd (omega (arith, e.2))
  widths (suc zero) (suc zero) exists = refl
  widths (suc zero) (suc (suc zero)) exists = refl
  widths (suc zero) (suc (suc (suc zero))) exists = refl
  widths (suc zero) (suc (suc (suc (suc orient)))) (inl e) = absurd (omega (arith, e.0))
  widths (suc zero) (suc (suc (suc (suc orient)))) (inr e) = absurd (omega (arith, e.3))
  widths (suc (suc level)) orient (inl e) = absurd (omega (arith, e.0))
  widths (suc (suc level)) orient (inr e) = absurd (omega (arith, e.1))

  heights : (level orient : ℕ) → BandExists 1 level orient → height (band_of (short_stack shorts) level orient) ≡ subband_length 1 level 6
  heights zero zero exists = refl
  heights zero (suc orient) (inl e) = absurd (omega (arith, e.1))
  heights zero (suc orient) (inr e) = absurd (omega (arith, e.0))
  heights (suc zero) zero (inl e) = absurd (omega (arith, e.0))
  heights (suc zero) zero (inr e) = absurd (omega (arith, e.2))
  heights (suc zero) (suc zero) exists = refl
  heights (suc zero) (suc (suc zero)) exists = refl
  heights (suc zero) (suc (suc (suc zero))) exists = refl
  heights (suc zero) (suc (suc (suc (suc orient)))) (inl e) = absurd (omega (arith, e.0))
  heights (suc zero) (suc (suc (suc (suc orient)))) (inr e) = absurd (omega (arith, e.3))
  heights (suc (suc level)) orient (inl e) = absurd (omega (arith, e.0))
  heights (suc (suc level)) orient (inr e) = absurd (omega (arith, e.1))

  narrow : (y x : ℕ) → y < 3 → x < 3 → IsWithin (pos (2 ^ 18)) (at shorts.lowest y x)
  narrow zero zero ly lx = in_narrow 50 (omega arith)
  narrow zero (suc zero) ly lx = in_narrow 51 (omega arith)
  narrow zero (suc (suc zero)) ly lx = in_narrow 52 (omega arith)
  narrow (suc zero) zero ly lx = in_narrow 53 (omega arith)
  narrow (suc zero) (suc zero) ly lx = in_narrow 54 (omega arith)
  narrow (suc zero) (suc (suc zero)) ly lx = in_narrow 55 (omega arith)
  narrow (suc (suc zero)) zero ly lx = in_narrow 56 (omega arith)
  narrow (suc (suc zero)) (suc zero) ly lx = in_narrow 57 (omega arith)
  narrow (suc (suc zero)) (suc (suc zero)) ly lx = in_narrow 58 (omega arith)
  narrow (suc (suc (suc y))) x ly lx = absurd (omega (arith, ly))
  narrow y (suc (suc (suc x))) ly lx = absurd (omega (arith, lx))

ring_unsound : IsShortSound (record { lowest = shorts.lowest; slices = ring }) → ⊥
ring_unsound sound = omega (arith, sound.whole)
