-- Laws of slices: nothing is left over, and nothing is shared.
use Rattle.std.specs.Prelude.{◌≡◌, ℕ, ◌<◌, ◌≤◌, map, sum}
use Rattle.std.specs.List.{range_with_len}
use Rattle.planes.specs.Rect.{IsInRect}
use Rattle.slice_geometry.specs.declared.Size.{Size}
use Rattle.slice_geometry.specs.Slicing.{Slicing, AreSlicesAllowed, bytes_before, slice_bytes}
use Rattle.slice_geometry.specs.Geometry.{holding, slice_rect}

-- the bytes of the first n slices, one by one, sum to floor(n * a / b)
abbrev pub SharesSumToTheWhole : Type 0
SharesSumToTheWhole = (a b n : ℕ) → 1 ≤ b → sum (map (slice_bytes a b) (range_with_len 0 n)) ≡ bytes_before a b n

-- Where a slice has at least one byte on average, each has one.
abbrev pub EachShareIsAtLeastOne : Type 0
EachShareIsAtLeastOne = (a b n : ℕ) → 1 ≤ b → b ≤ a → 1 ≤ slice_bytes a b n

-- a place of a subband lies in the rectangle of a slice
pub record IsHeld (s : Slicing) (band : Size) (y x : ℕ) : Type 0 where
  pub across : holding s.slices_x band.w x < s.slices_x
  pub down : holding s.slices_y band.h y < s.slices_y
  pub inside : IsInRect (slice_rect s band (holding s.slices_x band.w x) (holding s.slices_y band.h y)) y x

-- each place of a band lies in a slice
abbrev pub EachPlaceIsHeld : Type 0
EachPlaceIsHeld = (s : Slicing) (band : Size) (y x : ℕ) → AreSlicesAllowed s → x < band.w → y < band.h → IsHeld s band y x

-- and in no other's
abbrev pub NoPlaceIsShared : Type 0
NoPlaceIsShared = (s : Slicing) (band : Size) (y x sx sy : ℕ) → AreSlicesAllowed s
    → IsInRect (slice_rect s band sx sy) y x → (sx ≡ holding s.slices_x band.w x) × (sy ≡ holding s.slices_y band.h y)
