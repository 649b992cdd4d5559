-- The coefficients of a slice in all three components, gathered.
use Rattle.std.specs.Prelude.{◌≡◌, ℕ, ◌+◌, ◌-◌, ◌*◌, ◌<◌, ◌≤◌, length, slice_index}
use Rattle.quant_factors.specs.Weights.{Weights, band_quantiser}
use Rattle.slice_geometry.specs.declared.PictureShape.{PictureShape}
use Rattle.slice_geometry.specs.Slicing.{Slicing}
use Rattle.slice_geometry.specs.SliceOrder.{place_count}
use Rattle.slice_encoder.specs.declared.bounding.Lower.{Lower}
use Rattle.slice_encoder.specs.declared.first_residuals.FirstResiduals.{FirstResiduals}
use Rattle.slice_encoder.specs.declared.gathered.GatheredSlice.{GatheredSlice}
use Rattle.slice_encoder.specs.declared.gathered.Looks.{Looks}
use Rattle.slice_encoder.specs.Trials.{CodedPicture}
use Rattle.slice_encoder.specs.Looks.{IsLook, IsFew}
use Rattle.slice_encoder.specs.Sizes.{AreSizes}
use Rattle.slice_encoder.specs.FirstResiduals.{bits_beyond_one}
use Rattle.slice_encoder.specs.RestoredSlice.{AreLowRects}
use Rattle.slice_encoder.specs.Gathering.{AreGathered, gathered_values, gathered_pairs, gathered_reach, gathered_pairs_reach, behind_lowest}

-- Its magnitudes are those of its coefficients outside the lowest subbands, under this matrix.
pub record HasSizes (g : GatheredSlice) (matrix : Weights) : Type 0 where
  pub luma : AreSizes g.luma_sizes (gathered_values g.luma matrix)
  pub colour : AreSizes g.colour_sizes (gathered_pairs g.c1 g.c2 matrix)

-- Each component's coefficients of slice (sx, sy) are gathered.
pub record AreAllGathered (j : CodedPicture) (sx sy : ℕ) (g : GatheredSlice) : Type 0 where
  pub luma : AreGathered j.slicing j.frame.luma j.coefficients.luma sx sy g.luma
  pub c1 : AreGathered j.slicing j.frame.colour j.coefficients.c1 sx sy g.c1
  pub c2 : AreGathered j.slicing j.frame.colour j.coefficients.c2 sx sy g.c2
  pub lowest : AreLowRects j sx sy g.lowest
  pub sizes : HasSizes g j.matrix

-- These are the looks at its luma and colour values outside the lowest subbands, at an index.
pub record AreLooks (l : Looks) (g : GatheredSlice) (matrix : Weights) (index : ℕ) : Type 0 where
  pub luma : IsLook l.luma (gathered_values g.luma matrix index)
  pub colour : IsLook l.colour (gathered_pairs g.c1 g.c2 matrix index)
  pub few_luma : IsFew l.luma
  pub few_colour : IsFew l.colour

-- How many bits the values of the lowest subbands take at least at a quantiser: each takes one, and the first of each
-- component more, by its residual.
abbrev pub lowest_luma : GatheredSlice → FirstResiduals → ℕ → ℕ
lowest_luma g f q = slice_index g.luma.ends 0 + bits_beyond_one f.luma q

abbrev pub lowest_colour : GatheredSlice → FirstResiduals → ℕ → ℕ
lowest_colour g f q = 2 * slice_index g.c1.ends 0 + (bits_beyond_one f.c1 q + bits_beyond_one f.c2 q)

-- What the slice needs at least at an index.
abbrev pub gathered_low : GatheredSlice → FirstResiduals → Weights → ℕ → Lower
gathered_low g f matrix index = let q = band_quantiser matrix index 0 0 in record {
  luma = behind_lowest (lowest_luma g f q) (gathered_reach g.luma matrix index) - 3;
  colour = behind_lowest (lowest_colour g f q) (gathered_pairs_reach g.c1 g.c2 matrix index) - 3;
}

-- there is room for each slice of a picture, and the tables are those of its layout
pub record CanHoldAll (s : Slicing) (shape : PictureShape) (g : GatheredSlice) : Type 0 where
  pub luma_rects : g.luma_rects ≡ record { slicing = s; size = shape.luma }
  pub colour_rects : g.colour_rects ≡ record { slicing = s; size = shape.colour }
  pub luma : (sx sy : ℕ) → sx < s.slices_x → sy < s.slices_y → place_count s shape.luma sx sy ≤ length g.luma.values
  pub c1 : (sx sy : ℕ) → sx < s.slices_x → sy < s.slices_y → place_count s shape.colour sx sy ≤ length g.c1.values
  pub c2 : (sx sy : ℕ) → sx < s.slices_x → sy < s.slices_y → place_count s shape.colour sx sy ≤ length g.c2.values
  pub luma_sizes : (sx sy : ℕ) → sx < s.slices_x → sy < s.slices_y → place_count s shape.luma sx sy ≤ length g.luma_sizes.values
  pub colour_sizes : (sx sy : ℕ) → sx < s.slices_x → sy < s.slices_y → 2 * place_count s shape.colour sx sy ≤ length g.colour_sizes.values
