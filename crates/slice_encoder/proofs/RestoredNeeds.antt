-- The values in the lowest subbands of a restored slice.
use Rattle.std.proofs.Common.{◌≡◌, ◌∙◌, sym, ap, subst, ℕ, ◌+◌, ◌*◌, ◌≤◌, List, ◌++◌, length, arith, ℤ}
use Rattle.std.specs.List.{flat_map, range_with_len}
use Rattle.std.proofs.lemmas.List.Elements.{All-take}
use Rattle.std.proofs.Math.Seq.{take-append_seam}
use Rattle.planes.specs.Raster.{Raster, Grid, at}
use Rattle.slice_geometry.specs.SliceOrder.{level_rect, area, place_count}
use Rattle.bounded_blocks.specs.Parts.{IsSmall}
use Rattle.slice_encoder.specs.Trials.{CodedComponent, CodedPicture, luma_list, colour_list, c1_of, c2_of}
use Rattle.slice_encoder.specs.TrialLaws.{AreSmallValues}
use Rattle.slice_encoder.specs.Listing.{band_part, pair_part}
use Rattle.slice_encoder.specs.Gathering.{high_part, high_pair}
use Rattle.slice_encoder.proofs.Gathers.{first_count, raw_count, raw_within}
use Rattle.slice_encoder.proofs.Reaches.{luma_parts, colour_parts}

front_small : (front high all : List ℤ) → all ≡ front ++ high → AreSmallValues all → AreSmallValues front
front_small front high all all_is small =
    subst AreSmallValues (take-append_seam front high) (All-take IsSmall (length front) (front ++ high) (subst AreSmallValues all_is small))

-- ---- of luma

pub lowest_within : (c : CodedComponent) (sx sy : ℕ) → area (level_rect c.slicing c.size sx sy 0) ≤ place_count c.slicing c.size sx sy
lowest_within c sx sy =
    omega (
      arith,
      first_count c.slicing c.size c.bands sx sy,
      raw_count c.slicing c.size c.bands sx sy c.slicing.depth,
      raw_within c.slicing c.size c.bands sx sy 1 (3 * c.slicing.depth + 1) (omega arith),
    )

module _ (c : CodedComponent) (index sx sy : ℕ) (kept : Raster ℤ) (restored : Grid) (is : at kept ≡ restored) where
  luma_is : luma_list c restored index sx sy ≡ band_part c kept index sx sy 0 ++ flat_map (high_part c index sx sy) (range_with_len 1 (3 * c.slicing.depth))
  luma_is = sym (ap (λ (g : Grid). luma_list c g index sx sy) is) ∙ luma_parts c kept index sx sy

  pub lowest_luma_small : AreSmallValues (luma_list c restored index sx sy) → AreSmallValues (band_part c kept index sx sy 0)
  lowest_luma_small = front_small (band_part c kept index sx sy 0) (flat_map (high_part c index sx sy) (range_with_len 1 (3 * c.slicing.depth))) (luma_list c restored index sx sy) luma_is

-- ---- of colour

module _ (j : CodedPicture) (index sx sy : ℕ) (kept1 kept2 : Raster ℤ) (restored1 restored2 : Grid) (is1 : at kept1 ≡ restored1) (is2 : at kept2 ≡ restored2) where
  abbrev all : List ℤ
  all = colour_list (c1_of j) (c2_of j) restored1 restored2 index sx sy

  abbrev front : List ℤ
  front = pair_part (c1_of j) (c2_of j) kept1 kept2 index sx sy 0

  abbrev high : List ℤ
  high = flat_map (high_pair j index sx sy) (range_with_len 1 (3 * j.slicing.depth))

  colour_is : colour_list (c1_of j) (c2_of j) restored1 restored2 index sx sy ≡ pair_part (c1_of j) (c2_of j) kept1 kept2 index sx sy 0 ++ flat_map (high_pair j index sx sy) (range_with_len 1 (3 * j.slicing.depth))
  colour_is =
      sym (ap (λ (g : Grid). colour_list (c1_of j) (c2_of j) g (at kept2) index sx sy) is1 ∙ ap (λ (g : Grid). colour_list (c1_of j) (c2_of j) restored1 g index sx sy) is2)
      ∙ colour_parts j kept1 kept2 index sx sy

  pub lowest_colour_small : AreSmallValues (colour_list (c1_of j) (c2_of j) restored1 restored2 index sx sy) → AreSmallValues (pair_part (c1_of j) (c2_of j) kept1 kept2 index sx sy 0)
  lowest_colour_small = front_small front high all colour_is
