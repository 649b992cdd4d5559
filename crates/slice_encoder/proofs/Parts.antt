-- The values of a slice, band by band, and what it needs at least.
use Rattle.std.specs.Prelude.{ℕ, ◌+◌, ◌-◌, ◌*◌, List, ℤ}
use Rattle.std.specs.List.{flat_map, range_with_len}
use Rattle.planes.specs.Raster.{Raster}
use Rattle.quant_factors.specs.Weights.{band_quantiser}
use Rattle.slice_geometry.specs.SliceOrder.{level_rect, area}
use Rattle.slice_encoder.specs.declared.bounding.Lower.{Lower}
use Rattle.slice_encoder.specs.declared.first_residuals.FirstResiduals.{FirstResiduals}
use Rattle.slice_encoder.specs.Trials.{CodedComponent, CodedPicture, luma_of}
use Rattle.slice_encoder.specs.Listing.{band_part, pair_part}
use Rattle.slice_encoder.specs.FirstResiduals.{bits_beyond_one}
use Rattle.slice_encoder.specs.Gathering.{high_reach, high_pairs_reach, behind_lowest}

-- the values of the slice in the first k bands
abbrev pub parts_before : CodedComponent → Raster ℤ → ℕ → ℕ → ℕ → ℕ → List ℤ
parts_before c kept index sx sy k = flat_map (band_part c kept index sx sy) (range_with_len 0 k)

-- and those of two components in turn
abbrev pub pairs_before : CodedComponent → CodedComponent → Raster ℤ → Raster ℤ → ℕ → ℕ → ℕ → ℕ → List ℤ
pairs_before c1 c2 kept1 kept2 index sx sy k = flat_map (pair_part c1 c2 kept1 kept2 index sx sy) (range_with_len 0 k)

-- What a slice needs at least at an index, whatever is restored of it: a code that isn't 0 ends in three ones at most.
abbrev pub reach_of : CodedPicture → FirstResiduals → ℕ → ℕ → ℕ → Lower
reach_of j f sx sy index = let q = band_quantiser j.matrix index 0 0 in record {
  luma = behind_lowest (area (level_rect j.slicing j.frame.luma sx sy 0) + bits_beyond_one f.luma q) (high_reach (luma_of j) index sx sy) - 3;
  colour = behind_lowest (2 * area (level_rect j.slicing j.frame.colour sx sy 0) + (bits_beyond_one f.c1 q + bits_beyond_one f.c2 q)) (high_pairs_reach j index sx sy) - 3;
}
