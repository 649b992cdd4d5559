-- What decoding a slice leaves in the subbands.
use Rattle.std.specs.Prelude.{◌≡◌, ℕ, ◌+◌, ◌*◌, ◌≤◌, true, false, List, slice_index_or, ℤ, pos, ◌+ℤ◌}
use Rattle.planes.specs.Numbers.{Within}
use Rattle.planes.specs.Raster.{at}
use Rattle.planes.specs.Rect.{IsInRect}
use Rattle.planes.specs.Subbands.{BandStack, BandExists, band_of, HaveSizes}
use Rattle.planes.specs.declared.Trio.{Trio}
use Rattle.dc_prediction.specs.Prediction.{prediction, reach}
use Rattle.dc_prediction.specs.Restoring.{AllLookedAtOutside}
use Rattle.slice_geometry.specs.declared.Size.{Size}
use Rattle.slice_geometry.specs.declared.PictureShape.{PictureShape}
use Rattle.slice_geometry.specs.declared.SliceHead.{SliceHead}
use Rattle.slice_geometry.specs.Slicing.{Slicing}
use Rattle.slice_geometry.specs.Geometry.{padded_length}
use Rattle.quant_factors.specs.Weights.{Weights}
use Rattle.slice_decoder.specs.declared.SliceFault.{SliceFault}
use Rattle.slice_decoder.specs.declared.SliceFault.TheVariants.{LumaLengthTooLong, CoefficientTooLarge}
use Rattle.slice_decoder.specs.Slice.{Slice, luma_values, colour_values, is_small}
use Rattle.slice_geometry.specs.SliceOrder.{level_rect, place_number}
use Rattle.slice_decoder.specs.Dealing.{KeepsOutside}

-- The bands of one component are ready for the slice in column sx and row sy: they have their sizes, and what is looked
-- at outside the slice when its residuals are restored is no greater than a restored value there can be.
pub record IsReady (s : Slicing) (size : Size) (sx sy : ℕ) (b : BandStack) : Type 0 where
  pub depth : b.depth ≡ s.depth
  pub sizes : HaveSizes b (padded_length s.depth size.w) (padded_length s.depth size.h)
  pub outside : AllLookedAtOutside (λ y x. Within (reach y x) (at (band_of b 0 0) y x)) (level_rect s size sx sy 0)

-- the bands of all three components are
pub record AreReady (s : Slicing) (shape : PictureShape) (sx sy : ℕ) (bands : Trio) : Type 0 where
  pub luma : IsReady s shape.luma sx sy bands.luma
  pub c1 : IsReady s shape.colour sx sy bands.c1
  pub c2 : IsReady s shape.colour sx sy bands.c2

-- The slice's places of one component hold their values. The list has so many values a place, of which this component has
-- the one that is counted from 0 by `from`. In the lowest subband the values are residuals, and the places hold what they
-- restore.
pub record HoldsSlice (each from : ℕ) (s : Slicing) (size : Size) (sx sy : ℕ) (values : List ℤ) (b : BandStack) : Type 0 where
  pub restored : (y x : ℕ) → IsInRect (level_rect s size sx sy 0) y x
      → at (band_of b 0 0) y x ≡ slice_index_or values (each * place_number s size sx sy 0 0 y x + from) (pos 0)
      +ℤ prediction (at (band_of b 0 0)) y x
  pub small : (y x : ℕ) → IsInRect (level_rect s size sx sy 0) y x → Within (reach y x) (at (band_of b 0 0) y x)
  pub dequantised : (level orient y x : ℕ) → BandExists s.depth level orient → 1 ≤ level
      → IsInRect (level_rect s size sx sy level) y x
      → at (band_of b level orient) y x ≡ slice_index_or values (each * place_number s size sx sy level orient y x + from) (pos 0)

-- All other places of one component are as they were.
pub record KeepsOthers (s : Slicing) (size : Size) (sx sy : ℕ) (old new : BandStack) : Type 0 where
  pub same_depth : new.depth ≡ old.depth
  pub bands : (level orient : ℕ) → BandExists s.depth level orient
      → KeepsOutside (level_rect s size sx sy level) (band_of old level orient) (band_of new level orient)

-- all other places of all three components are
pub record AllKeepOthers (s : Slicing) (shape : PictureShape) (sx sy : ℕ) (old new : Trio) : Type 0 where
  pub luma : KeepsOthers s shape.luma sx sy old.luma new.luma
  pub c1 : KeepsOthers s shape.colour sx sy old.c1 new.c1
  pub c2 : KeepsOthers s shape.colour sx sy old.c2 new.c2

-- the slice of these bytes was decoded
pub record IsDecoded (s : Slicing) (shape : PictureShape) (sx sy : ℕ) (matrix : Weights) (slice : Slice)
    (head : SliceHead) (bands : Trio) : Type 0 where
  pub qindex : head.qindex ≡ slice.qindex
  pub luma_bits : head.luma_bits ≡ slice.luma_bits
  pub fits : slice.too_long ≡ false
  pub small : is_small s shape.luma shape.colour sx sy matrix slice ≡ true
  pub luma : HoldsSlice 1 0 s shape.luma sx sy (luma_values s shape.luma sx sy matrix slice) bands.luma
  pub c1 : HoldsSlice 2 0 s shape.colour sx sy (colour_values s shape.colour sx sy matrix slice) bands.c1
  pub c2 : HoldsSlice 2 1 s shape.colour sx sy (colour_values s shape.colour sx sy matrix slice) bands.c2

-- why a slice is refused: its luma length is above the bits left, or else some dequantised magnitude passes 2 ^ 36
abbrev pub IsRefused : Slicing → PictureShape → ℕ → ℕ → Weights → Slice → SliceFault → Type 0
IsRefused s shape sx sy matrix slice LumaLengthTooLong = slice.too_long ≡ true
IsRefused s shape sx sy matrix slice CoefficientTooLarge =
    (slice.too_long ≡ false) × (is_small s shape.luma shape.colour sx sy matrix slice ≡ false)
