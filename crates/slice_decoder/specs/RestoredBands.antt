-- A slice's values as they are restored, band by band.
use Rattle.std.specs.Prelude.{◌≡◌, ℕ, ◌+◌, ◌*◌, ◌<◌, ◌≤◌, false, List, length, slice_index_or, ℤ, pos}
use Rattle.quant_factors.specs.Weights.{Weights}
use Rattle.slice_geometry.specs.SliceOrder.{area}
use Rattle.slice_decoder.specs.Components.{Part, rect_of, quantisers_before}
use Rattle.slice_decoder.specs.Levels.{places_in}
use Rattle.slice_decoder.specs.Restored.{restored_at, AllWithin, StayWithin}

-- the quantisers of all values of a slice
abbrev pub all_quantisers : ℕ → Part → List ℕ
all_quantisers each p = quantisers_before each p (3 * p.slicing.depth + 1)

-- band k of a slice with this matrix and index has so many values
pub record IsBand (matrix : Weights) (qindex each : ℕ) (p : Part) (k count : ℕ) : Type 0 where
  pub matrix_is : p.matrix ≡ matrix
  pub qindex_is : p.qindex ≡ qindex
  pub depth_is : matrix.depth ≡ p.slicing.depth
  pub count_is : count ≡ each * area (rect_of p k)

-- and each of three bands has
pub record AreBands (matrix : Weights) (qindex each : ℕ) (p : Part) (k count : ℕ) : Type 0 where
  pub first : IsBand matrix qindex each p k count
  pub second : IsBand matrix qindex each p (k + 1) count
  pub third : IsBand matrix qindex each p (k + 2) count

-- The values before band k, which begins at a place, are restored within a bound, and the others are as they were.
pub record IsRestoredTo (most each : ℕ) (p : Part) (k from : ℕ) (old new : List ℤ) : Type 0 where
  pub from_is : from ≡ each * places_in p.slicing p.size p.sx p.sy k
  pub same_length : length new ≡ length old
  pub within : AllWithin most (restored_at old (all_quantisers each p)) 0 from
  pub done : (j : ℕ) → j < from → slice_index_or new j (pos 0) ≡ restored_at old (all_quantisers each p) j
  pub rest : (j : ℕ) → from ≤ j → slice_index_or new j (pos 0) ≡ slice_index_or old j (pos 0)

-- one of them all is restored to a greater magnitude
abbrev pub OnePasses : ℕ → ℕ → Part → List ℤ → Type 0
OnePasses most each p values =
    StayWithin most false (restored_at values (all_quantisers each p)) 0 (length values)
