-- The values of a slice in one band, as the code lists them.
use Rattle.std.specs.Prelude.{ℕ, ◌-◌, ◌==◌, List, [], ◌∷◌, map, if◌then◌else◌, ℤ}
use Rattle.std.specs.List.{flat_map, range_with_len}
use Rattle.planes.specs.declared.Rect.{Rect}
use Rattle.planes.specs.Raster.{Grid, Raster, at}
use Rattle.dc_prediction.specs.Prediction.{prediction}
use Rattle.quant_factors.specs.Factors.{forward_of}
use Rattle.quant_factors.specs.Weights.{band_quantiser}
use Rattle.slice_geometry.specs.SliceOrder.{level_rect, level_of, orient_of, numbered}
use Rattle.slice_encoder.specs.Loop.{residual_of}
use Rattle.slice_encoder.specs.Trials.{CodedComponent}

-- a place's value: in the lowest subband its residual, by the values that are restored there
abbrev pub band_value : Raster ℤ → Raster ℤ → ℕ → ℕ → Grid
band_value coefficients restored level q y x =
    if level == 0 then residual_of (at coefficients y x) q (prediction (at restored) y x) else forward_of (at coefficients y x) q

-- the values of one row of a rectangle
abbrev pub row_values : Grid → Rect → ℕ → List ℤ
row_values g r y = map (g y) (range_with_len r.x0 (r.x1 - r.x0))

-- the values of a rectangle, row by row
abbrev pub rect_values : Grid → Rect → List ℤ
rect_values g r = flat_map (row_values g r) (range_with_len r.y0 (r.y1 - r.y0))

-- the values of two grids in turn, in one row of a rectangle
abbrev pub pair_row : Grid → Grid → Rect → ℕ → List ℤ
pair_row g h r y = flat_map (λ x. g y x ∷ h y x ∷ []) (range_with_len r.x0 (r.x1 - r.x0))

-- the values of two grids in turn, row by row of a rectangle
abbrev pub pair_values : Grid → Grid → Rect → List ℤ
pair_values g h r = flat_map (pair_row g h r) (range_with_len r.y0 (r.y1 - r.y0))

-- the values of the slice in band number k (LL, then HL, LH and HH of each level)
abbrev pub band_part : CodedComponent → Raster ℤ → ℕ → ℕ → ℕ → ℕ → List ℤ
band_part c kept index sx sy k =
    rect_values (band_value (numbered c.bands k) kept (level_of k)
    (band_quantiser c.matrix index (level_of k) (orient_of k))) (level_rect c.slicing c.size sx sy (level_of k))

-- and those of two components in turn
abbrev pub pair_part : CodedComponent → CodedComponent → Raster ℤ → Raster ℤ → ℕ → ℕ → ℕ → ℕ → List ℤ
pair_part c1 c2 kept1 kept2 index sx sy k =
    pair_values (band_value (numbered c1.bands k) kept1 (level_of k) (band_quantiser c1.matrix index (level_of k) (orient_of k)))
    (band_value (numbered c2.bands k) kept2 (level_of k) (band_quantiser c2.matrix index (level_of k) (orient_of k)))
    (level_rect c1.slicing c1.size sx sy (level_of k))
