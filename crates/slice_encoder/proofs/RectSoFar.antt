-- A rectangle that is restored so far.
use Rattle.std.specs.Prelude.{◌≡◌, ℕ, ◌+◌, ◌*◌, ◌^◌, ◌<◌, ◌≢◌, ◌⊎◌, List, length, get_or, ℤ, pos}
use Rattle.planes.specs.declared.Rect.{Rect}
use Rattle.planes.specs.Numbers.{Within}
use Rattle.planes.specs.Raster.{Grid, Raster, height, at}
use Rattle.planes.specs.Rect.{IsInRect}
use Rattle.dc_prediction.specs.Prediction.{prediction}
use Rattle.slice_geometry.specs.SliceOrder.{number_in}
use Rattle.slice_encoder.specs.Loop.{residual_of, restored_value}

-- the places before row y and column x, row by row
abbrev pub Before : ℕ → ℕ → ℕ → ℕ → Type 0
Before y x j i = (j < y) ⊎ ((j ≡ y) × (i < x))

-- The places of the rectangle before one are restored, and all else stays.
pub record TriedSoFar (g : Grid) (q : ℕ) (r : Rect) (y x : ℕ) (old new : Raster ℤ) : Type 0 where
  pub same_width : new.w ≡ old.w
  pub same_height : height new ≡ height old
  pub done : (j i : ℕ) → IsInRect r j i → Before y x j i → at new j i ≡ restored_value (g j i) q (prediction (at new) j i)
  pub small : (j i : ℕ) → IsInRect r j i → Before y x j i → Within (3 * 2 ^ 27 + 2) (at new j i)
  pub stays : (j i : ℕ) → (IsInRect r j i → Before y x j i → ⊥) → at new j i ≡ at old j i

-- The values of those places stand in the list, and all else of it stays.
pub record ListedSoFar (g : Grid) (q : ℕ) (r : Rect) (y x : ℕ) (kept : Raster ℤ) (from step : ℕ) (old new : List ℤ) : Type 0 where
  pub same_length : length new ≡ length old
  pub values : (j i : ℕ) → IsInRect r j i → Before y x j i → get_or new (from + step * number_in r j i) (pos 0) ≡ residual_of (g j i) q (prediction (at kept) j i)
  pub stays : (n : ℕ) → ((k : ℕ) → n ≢ from + step * k) → get_or new n (pos 0) ≡ get_or old n (pos 0)
