-- Worked slices in lists, and their tables, by evaluation: a component of four columns and two rows, one level, two slices across.
use Rattle.std.proofs.Common.{◌≡◌, refl, ℕ, zero, suc, ◌+◌, ◌/◌, ◌%◌, ◌<◌, List, [], ◌∷◌, get_or, arith, inl, inr, ℤ, pos}
use Rattle.planes.specs.Raster.{at}
use Rattle.planes.specs.Rect.{IsInRect}
use Rattle.planes.specs.Subbands.{BandStack, BandExists, band_of}
use Rattle.planes.specs.declared.Rect.{Rect}
use Rattle.slice_geometry.specs.declared.Size.{Size}
use Rattle.slice_geometry.specs.Slicing.{Slicing}
use Rattle.slice_geometry.specs.SliceOrder.{level_rect, place_number}
use Rattle.slice_encoder.specs.Gathering.{AreEnds}
use Rattle.slice_encoder.specs.RectTrials.{grid_in}
use Rattle.slice_encoder.specs.SliceLists.{HoldsSlice}
use Rattle.slice_encoder.specs.SliceRects.{AreTop}

abbrev two_slices : Slicing
two_slices = record { depth = 1; slices_x = 2; slices_y = 1; a = 1; b = 1 }

abbrev four_by_two : Size
four_by_two = record { w = 4; h = 2 }

-- LL, HL, LH and HH, of two columns and one row each
abbrev stack : BandStack
stack = record {
  depth = 1;
  bands = record { w = 2; rows = (pos 10 ∷ pos 11 ∷ []) ∷ [] }
      ∷ record { w = 2; rows = (pos 20 ∷ pos 21 ∷ []) ∷ [] }
      ∷ record { w = 2; rows = (pos 30 ∷ pos 31 ∷ []) ∷ [] }
      ∷ record { w = 2; rows = (pos 40 ∷ pos 41 ∷ []) ∷ [] }
      ∷ [];
}

abbrev second : List ℤ
second = pos 11 ∷ pos 21 ∷ pos 31 ∷ pos 41 ∷ []

-- the list has this place's number at its number
abbrev Here : ℕ → ℕ → ℕ → ℕ → Type 0
Here level orient y x = get_or second (place_number two_slices four_by_two 1 0 level orient y x) (pos 0) ≡ at (band_of stack level orient) y x

-- the second slice has the second column of each
second_slice : HoldsSlice two_slices four_by_two stack 1 0 second
second_slice = record { count = refl; each = each }
  where
    moved : (level orient y x : ℕ) → Here level orient 0 1 → y ≡ 0 → x ≡ 1 → Here level orient y x
    moved level orient y x here y_is x_is = rw (y_is, x_is) here

    none : (level orient : ℕ) → (1 < level) → BandExists 1 level orient → ⊥
    none level orient high there = elim there [ inl low ↦ omega (arith, high, low.0) | inr some ↦ omega (arith, high, some.1) ]

    each : (level orient y x : ℕ) → BandExists 1 level orient → IsInRect (level_rect two_slices four_by_two 1 0 level) y x → Here level orient y x
    each zero zero y x there here = moved 0 0 y x refl (omega (arith, here.bottom)) (omega (arith, here.left, here.right))
    each zero (suc o) y x there here = elim there [ inl low ↦ absurd (omega (arith, low.1)) | inr some ↦ absurd (omega (arith, some.0)) ]
    each (suc zero) zero y x there here = elim there [ inl low ↦ absurd (omega (arith, low.0)) | inr some ↦ absurd (omega (arith, some.2)) ]
    each (suc zero) (suc zero) y x there here = moved 1 1 y x refl (omega (arith, here.bottom)) (omega (arith, here.left, here.right))
    each (suc zero) (suc (suc zero)) y x there here = moved 1 2 y x refl (omega (arith, here.bottom)) (omega (arith, here.left, here.right))
    each (suc zero) (suc (suc (suc zero))) y x there here = moved 1 3 y x refl (omega (arith, here.bottom)) (omega (arith, here.left, here.right))
    each (suc zero) (suc (suc (suc (suc o)))) y x there here = elim there [ inl low ↦ absurd (omega (arith, low.0)) | inr some ↦ absurd (omega (arith, some.3)) ]
    each (suc (suc l)) o y x there here = absurd (none (suc (suc l)) o (omega arith) there)

-- where its bands end
second_ends : AreEnds two_slices four_by_two 1 0 (1 ∷ 2 ∷ 3 ∷ 4 ∷ [])
second_ends bands zero lt = refl
second_ends bands (suc zero) lt = refl
second_ends bands (suc (suc zero)) lt = refl
second_ends bands (suc (suc (suc zero))) lt = refl
second_ends bands (suc (suc (suc (suc k)))) lt = absurd (omega (arith, lt))

abbrev column : ℕ → Rect
column x = record { x0 = x; x1 = x + 1; y0 = 0; y1 = 1 }

-- the tables of the slices in the top row, and of the one in the left column
top : AreTop two_slices four_by_two (column 0 ∷ column 1 ∷ column 0 ∷ column 1 ∷ [])
top = record { count = refl; each = each }
  where
    each : (n : ℕ) → n < 4 → get_or (column 0 ∷ column 1 ∷ column 0 ∷ column 1 ∷ []) n (record { x0 = 0; x1 = 0; y0 = 0; y1 = 0 }) ≡ level_rect two_slices four_by_two (n % 2) 0 (n / 2)
    each zero lt = refl
    each (suc zero) lt = refl
    each (suc (suc zero)) lt = refl
    each (suc (suc (suc zero))) lt = refl
    each (suc (suc (suc (suc n)))) lt = absurd (omega (arith, lt))

-- a rectangle's numbers in a list
corner : grid_in (record { x0 = 3; x1 = 5; y0 = 7; y1 = 9 }) (pos 1 ∷ pos 2 ∷ pos 3 ∷ pos 4 ∷ []) 8 3 ≡ pos 3
corner = refl
