-- The lowest subband of a slice as a trial restores it, place by place. A coefficient of any picture is within 2 ^ 27,
-- and so a restored value within 3 * 2 ^ 27 + 2.
use Rattle.std.specs.Prelude.{◌≡◌, ◌≢◌, ℕ, ◌+◌, ◌*◌, ◌^◌, ◌≤◌, List, length, get_or, ℤ, pos}
use Rattle.planes.specs.declared.Rect.{Rect}
use Rattle.planes.specs.Numbers.{Within}
use Rattle.planes.specs.Raster.{Grid, Raster, height, at}
use Rattle.planes.specs.Rect.{IsInRect}
use Rattle.dc_prediction.specs.Prediction.{prediction}
use Rattle.dc_prediction.specs.Restoring.{AllLookedAtOutside}
use Rattle.slice_geometry.specs.SliceOrder.{number_in}
use Rattle.slice_encoder.specs.Loop.{residual_of, restored_value}

-- the numbers of a rectangle, which stand in a list row by row
abbrev pub grid_in : Rect → List ℤ → Grid
grid_in r list y x = get_or list (number_in r y x) (pos 0)

-- What trying a rectangle asks for.
pub record CanTryRect (r : Rect) (coefficients : Grid) (kept : Raster ℤ) : Type 0 where
  pub x_inside : r.x1 ≤ kept.w
  pub y_inside : r.y1 ≤ height kept
  pub small : (y x : ℕ) → IsInRect r y x → Within (2 ^ 27) (coefficients y x)
  pub outside : AllLookedAtOutside (λ y x. Within (3 * 2 ^ 27 + 2) (at kept y x)) r

-- All places of the rectangle are restored, and all else stays.
pub record TriesRect (g : Grid) (q : ℕ) (r : Rect) (old new : Raster ℤ) : Type 0 where
  pub same_width : new.w ≡ old.w
  pub same_height : height new ≡ height old
  pub done : (j i : ℕ) → IsInRect r j i → at new j i ≡ restored_value (g j i) q (prediction (at new) j i)
  pub small : (j i : ℕ) → IsInRect r j i → Within (3 * 2 ^ 27 + 2) (at new j i)
  pub stays : (j i : ℕ) → (IsInRect r j i → ⊥) → at new j i ≡ at old j i

-- The values of its places stand in a list, each so many places behind the one before, and all else of the list stays.
pub record ListsRect (g : Grid) (q : ℕ) (r : Rect) (kept : Raster ℤ) (from step : ℕ) (old new : List ℤ) : Type 0 where
  pub same_length : length new ≡ length old
  pub values : (j i : ℕ) → IsInRect r j i
      → get_or new (from + step * number_in r j i) (pos 0) ≡ residual_of (g j i) q (prediction (at kept) j i)
  pub stays : (n : ℕ) → ((k : ℕ) → n ≢ from + step * k) → get_or new n (pos 0) ≡ get_or old n (pos 0)
