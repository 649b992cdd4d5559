-- A slice's coefficients in a list, in the order of the stream.
use Rattle.std.specs.Prelude.{◌≡◌, ℕ, List, length, get_or, ℤ, pos}
use Rattle.planes.specs.Raster.{at}
use Rattle.planes.specs.Rect.{IsInRect}
use Rattle.planes.specs.Subbands.{BandStack, BandExists, band_of}
use Rattle.slice_geometry.specs.declared.Size.{Size}
use Rattle.slice_geometry.specs.Slicing.{Slicing}
use Rattle.slice_geometry.specs.SliceOrder.{level_rect, place_count, place_number}

-- The list holds the coefficients of slice (sx, sy) of a component with these bands, each at the number of its place.
pub record HoldsSlice (s : Slicing) (size : Size) (bands : BandStack) (sx sy : ℕ) (list : List ℤ) : Type 0 where
  pub count : length list ≡ place_count s size sx sy
  pub each : (level orient y x : ℕ) → BandExists s.depth level orient → IsInRect (level_rect s size sx sy level) y x
      → get_or list (place_number s size sx sy level orient y x) (pos 0) ≡ at (band_of bands level orient) y x
