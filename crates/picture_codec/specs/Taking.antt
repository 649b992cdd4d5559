-- Slices that are taken one after another, and the bands that hold them.
use Rattle.std.specs.Prelude.{◌≡◌, ℕ, ◌<◌, ◌≤◌, List, length, ◌+ℤ◌}
use Rattle.planes.specs.Raster.{at}
use Rattle.planes.specs.Rect.{IsInRect}
use Rattle.planes.specs.Subbands.{BandStack, BandExists, band_of}
use Rattle.slice_geometry.specs.declared.Size.{Size}
use Rattle.slice_geometry.specs.declared.Component.{Component}
use Rattle.slice_geometry.specs.Slicing.{Slicing, slice_number}
use Rattle.slice_geometry.specs.Geometry.{band_size, holding}
use Rattle.slice_geometry.specs.SliceOrder.{level_rect}
use Rattle.dc_prediction.specs.Prediction.{prediction, restored}
use Rattle.transform_params.specs.Params.{Params}
use Rattle.slice_geometry.specs.Frames.{Frame}
use Rattle.picture_codec.specs.Pictures.{size_of, slice_value, coefficient}

-- the number of the slice that holds a place of a band
abbrev pub holder : Slicing → Size → ℕ → ℕ → ℕ
holder s band y x = slice_number s (holding s.slices_x band.w x) (holding s.slices_y band.h y)

-- The first slices of a picture were taken in order: each place that one of them holds has its value.
pub record Took (f : Frame) (p : Params) (slices : List (List ℕ)) (c : Component) (b : BandStack) : Type 0 where
  pub lowest : (y x : ℕ) → y < (band_size p.slicing.depth 0 (size_of f c)).h
      → x < (band_size p.slicing.depth 0 (size_of f c)).w
      → holder p.slicing (band_size p.slicing.depth 0 (size_of f c)) y x < length slices
      → at (band_of b 0 0) y x ≡ restored (coefficient f p slices c 0 0) y x
  pub upper : (level orient y x : ℕ) → BandExists p.slicing.depth level orient → 1 ≤ level
      → y < (band_size p.slicing.depth level (size_of f c)).h → x < (band_size p.slicing.depth level (size_of f c)).w
      → holder p.slicing (band_size p.slicing.depth level (size_of f c)) y x < length slices
      → at (band_of b level orient) y x ≡ coefficient f p slices c level orient y x

-- The slice of these bytes was taken: its own places have its values, in the lowest band on their predictions, and all
-- others stay.
pub record TakesSlice (f : Frame) (p : Params) (c : Component) (sx sy : ℕ) (bytes : List ℕ) (old new : BandStack) : Type 0 where
  pub lowest : (y x : ℕ) → IsInRect (level_rect p.slicing (size_of f c) sx sy 0) y x
      → at (band_of new 0 0) y x ≡ slice_value f p c sx sy bytes 0 0 y x +ℤ prediction (at (band_of new 0 0)) y x
  pub upper : (level orient y x : ℕ) → BandExists p.slicing.depth level orient → 1 ≤ level
      → IsInRect (level_rect p.slicing (size_of f c) sx sy level) y x
      → at (band_of new level orient) y x ≡ slice_value f p c sx sy bytes level orient y x
  pub lowest_stays : (y x : ℕ) → (IsInRect (level_rect p.slicing (size_of f c) sx sy 0) y x → ⊥)
      → at (band_of new 0 0) y x ≡ at (band_of old 0 0) y x
  pub upper_stays : (level orient y x : ℕ) → BandExists p.slicing.depth level orient → 1 ≤ level
      → (IsInRect (level_rect p.slicing (size_of f c) sx sy level) y x → ⊥)
      → at (band_of new level orient) y x ≡ at (band_of old level orient) y x
