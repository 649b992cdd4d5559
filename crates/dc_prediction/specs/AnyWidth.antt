-- What restoring at any width asks for, and what it leaves, of the integers that the numbers stand for.
use Rattle.std.specs.Prelude.{◌≡◌, ℕ, ◌+◌, ◌≤◌, ℤ, ◌+ℤ◌}
use Rattle.planes.specs.declared.Rect.{Rect}
use Rattle.planes.specs.Numbers.{Within}
use Rattle.planes.specs.Raster.{Grid}
use Rattle.planes.specs.Rect.{IsInRect}
use Rattle.dc_prediction.specs.Prediction.{prediction}
use Rattle.dc_prediction.specs.Restoring.{AllLookedAtOutside, IsBefore}

-- The magnitudes in a rectangle are at most `most`; that of a restored value is at most `limit` of its row and column and 1.
pub record MayRestore (most room : ℕ) (limit : ℕ → ℕ) (rect : Rect) (g : Grid) : Type 0 where
  pub in_room : (y x : ℕ) → IsInRect rect y x → limit (y + x) ≤ room
  pub residuals : (y x : ℕ) → IsInRect rect y x → Within most (g y x)
  pub outside : AllLookedAtOutside (λ y x. Within (limit (y + x + 1)) (g y x)) rect

-- The places that have P hold their residual plus the prediction over the new values, and all else stays.
pub record Restores (limit : ℕ → ℕ) (P : ℕ → ℕ → Type 0) (old new : Grid) : Type 0 where
  pub restored : (y x : ℕ) → P y x → new y x ≡ old y x +ℤ prediction new y x
  pub small : (y x : ℕ) → P y x → Within (limit (y + x + 1)) (new y x)
  pub stays : (y x : ℕ) → (P y x → ⊥) → new y x ≡ old y x

-- the places of a rectangle before row y and column x
abbrev pub IsEarlier : Rect → ℕ → ℕ → ℕ → ℕ → Type 0
IsEarlier rect y x j i = IsInRect rect j i × IsBefore j i y x

-- Restoring a rectangle stops in row y and column x, whose value is not kept.
pub record StopsHere (limit : ℕ → ℕ) (keeps : ℤ → Type 0) (rect : Rect) (old new : Grid) (y x : ℕ) : Type 0 where
  pub here : IsInRect rect y x
  pub before : Restores limit (IsEarlier rect y x) old new
  pub passes : keeps (old y x +ℤ prediction new y x) → ⊥

-- restoring stopped at some place, at this width
abbrev pub Stops : (ℕ → ℕ) → (ℤ → Type 0) → Rect → Grid → Grid → Type 0
Stops limit keeps rect old new = (y : ℕ) × (x : ℕ) × StopsHere limit keeps rect old new y x

-- any number: in 64 bits each value is kept
abbrev pub IsAny : ℤ → Type 0
IsAny v = v ≡ v
