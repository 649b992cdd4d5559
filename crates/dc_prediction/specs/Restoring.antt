-- What restoring a rectangle of a band asks for, and what it leaves.
use Rattle.std.specs.Prelude.{◌≡◌, ℕ, ◌+◌, ◌^◌, ◌<◌, ◌≤◌, ◌⊎◌, ℤ, pos, ◌+ℤ◌}
use Rattle.bit_codes.specs.declared.TheConstants.{MAX_MAGNITUDE}
use Rattle.planes.specs.declared.Rect.{Rect}
use Rattle.planes.specs.Numbers.{Within}
use Rattle.planes.specs.Raster.{Raster, height, at}
use Rattle.planes.specs.Rect.{IsInRect}
use Rattle.planes.specs.Bounded.{IsWithin}
use Rattle.dc_prediction.specs.Prediction.{prediction, reach, AllLookedAt}

-- Each place outside the rectangle that is looked at for a place of it has P.
abbrev pub AllLookedAtOutside : (ℕ → ℕ → Type 0) → Rect → Type 0
AllLookedAtOutside P rect = (y x : ℕ) → IsInRect rect y x → AllLookedAt (λ j i. (IsInRect rect j i → ⊥) → P j i) y x

-- the places x0..x1 of row y
abbrev pub row_rect : ℕ → ℕ → ℕ → Rect
row_rect y x0 x1 = record { x0 = x0; x1 = x1; y0 = y; y1 = y + 1 }

-- What restoring a rectangle asks of the plane: the rectangle lies in it, the values in the rectangle are residuals of at
-- most 2 ^ 36, and what is looked at outside is no greater than a restored value there can be.
pub record CanRestore (rect : Rect) (p : Raster ℤ) : Type 0 where
  pub x_inside : rect.x1 ≤ p.w
  pub y_inside : rect.y1 ≤ height p
  pub narrow : p.w ≤ 8192
  pub low : height p ≤ 8192
  pub residuals : (y x : ℕ) → IsInRect rect y x → Within MAX_MAGNITUDE (at p y x)
  pub outside : AllLookedAtOutside (λ y x. Within (reach y x) (at p y x)) rect

-- Each place of the rectangle holds its residual plus the prediction over the new values, and all else stays.
pub record RestoresRect (rect : Rect) (old new : Raster ℤ) : Type 0 where
  pub same_width : new.w ≡ old.w
  pub same_height : height new ≡ height old
  pub restored : (y x : ℕ) → IsInRect rect y x → at new y x ≡ at old y x +ℤ prediction (at new) y x
  pub small : (y x : ℕ) → IsInRect rect y x → Within (reach y x) (at new y x)
  pub stays : (y x : ℕ) → (IsInRect rect y x → ⊥) → at new y x ≡ at old y x

-- ---- in 32 bits

-- A number of a narrow band: its magnitude is at most 2 ^ 18.
abbrev pub IsNarrow : ℤ → Type 0
IsNarrow v = IsWithin (pos (2 ^ 18)) v

-- row by row, and in a row from the left
abbrev pub IsBefore : ℕ → ℕ → ℕ → ℕ → Type 0
IsBefore j i y x = (j < y) ⊎ ((j ≡ y) × (i < x))

-- Restoring a rectangle stops in row y and column x, whose value would not be narrow: the places of the rectangle before
-- it are restored, and all else stays.
pub record StopsAt (rect : Rect) (old new : Raster ℤ) (y x : ℕ) : Type 0 where
  pub here : IsInRect rect y x
  pub same_width : new.w ≡ old.w
  pub same_height : height new ≡ height old
  pub restored : (j i : ℕ) → IsInRect rect j i → IsBefore j i y x → at new j i ≡ at old j i +ℤ prediction (at new) j i
  pub stays : (j i : ℕ) → (IsInRect rect j i → IsBefore j i y x → ⊥) → at new j i ≡ at old j i
  pub passes : IsNarrow (at old y x +ℤ prediction (at new) y x) → ⊥

-- restoring stopped at some place
abbrev pub IsStopped : Rect → Raster ℤ → Raster ℤ → Type 0
IsStopped rect old new = (y : ℕ) × (x : ℕ) × StopsAt rect old new y x
