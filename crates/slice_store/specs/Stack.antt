-- The bands that a store shows.
use Rattle.std.specs.Prelude.{◌≡◌, ◌≢◌, ◌⊎◌, ℕ, ◌+◌, ◌*◌, ◌<◌, List, length, map, ℤ, slice_index_or}
use Rattle.std.specs.List.{range_with_len}
use Rattle.planes.specs.Raster.{Raster, height, at}
use Rattle.planes.specs.Rect.{IsInRect}
use Rattle.planes.specs.Subbands.{BandStack, BandExists, band_of, AgreeInSizes}
use Rattle.slice_geometry.specs.declared.Size.{Size}
use Rattle.slice_geometry.specs.Slicing.{Slicing}
use Rattle.slice_geometry.specs.SliceOrder.{level_of, orient_of, level_rect, place_count, place_number}
use Rattle.slice_store.specs.Store.{Store}
use Rattle.slice_store.specs.Places.{band, number_at}

-- h rows of w numbers
abbrev pub tabulated : ℕ → ℕ → (ℕ → ℕ → ℤ) → Raster ℤ
tabulated w h f = record { w = w; rows = map (λ y. map (λ x. f y x) (range_with_len 0 w)) (range_with_len 0 h) }

-- a band
abbrev pub band_at : {X : Type 0} → (X → ℤ) → X → Store X → ℕ → ℕ → Raster ℤ
band_at value none s level orient = tabulated (band s level).w (band s level).h (number_at value none s level orient)

-- all bands, in the order of the stream
abbrev pub stack_of : {X : Type 0} → (X → ℤ) → X → Store X → BandStack
stack_of value none s = record {
  depth = s.slicing.depth;
  bands = map (λ k. band_at value none s (level_of k) (orient_of k)) (range_with_len 0 (3 * s.slicing.depth + 1));
}

-- A list holds the numbers of slice (sx, sy) of these bands, in the order of the stream.
pub record HoldsSlice {X : Type 0} (value : X → ℤ) (none : X) (s : Slicing) (size : Size) (bands : BandStack) (sx sy : ℕ) (list : List X) : Type 0 where
  pub count : length list ≡ place_count s size sx sy
  pub each : (level orient y x : ℕ) → BandExists s.depth level orient → IsInRect (level_rect s size sx sy level) y x
      → value (slice_index_or list (place_number s size sx sy level orient y x) none) ≡ at (band_of bands level orient) y x

-- Row y of a band is this line now, and all other places of all bands are as they were.
pub record IsBandRowPut (level orient y : ℕ) (row : ℕ → ℤ) (old new : BandStack) : Type 0 where
  pub sizes : AgreeInSizes old new
  pub here : (x : ℕ) → x < (band_of old level orient).w → at (band_of new level orient) y x ≡ row x
  pub others : (l o j x : ℕ) → BandExists old.depth l o → j < height (band_of old l o) → x < (band_of old l o).w
      → (l ≢ level) ⊎ (o ≢ orient) ⊎ (j ≢ y) → at (band_of new l o) j x ≡ at (band_of old l o) j x

-- The places of slice (sx, sy) have these numbers, which are counted from 0 in the order of the stream, and all other places of all bands
-- are as they were.
pub record IsSlicePut (s : Slicing) (size : Size) (sx sy : ℕ) (number : ℕ → ℤ) (old new : BandStack) : Type 0 where
  pub sizes : AgreeInSizes old new
  pub here : (level orient y x : ℕ) → BandExists s.depth level orient → IsInRect (level_rect s size sx sy level) y x
      → at (band_of new level orient) y x ≡ number (place_number s size sx sy level orient y x)
  pub others : (level orient y x : ℕ) → BandExists s.depth level orient → (IsInRect (level_rect s size sx sy level) y x → ⊥)
      → at (band_of new level orient) y x ≡ at (band_of old level orient) y x
