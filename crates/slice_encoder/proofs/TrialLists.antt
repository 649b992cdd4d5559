-- The lists of a slice that was tried: the values of its lowest subbands, and behind them those that were gathered.
use Rattle.std.proofs.Common.{◌≡◌, ◌∙◌, sym, ap, ℕ, ◌*◌, ◌≤◌, List, ◌++◌, arith, ℤ}
use Rattle.planes.specs.Raster.{Raster, Grid, at}
use Rattle.slice_geometry.specs.SliceOrder.{place_count}
use Rattle.bounded_blocks.specs.Writing.{codes_of, need}
use Rattle.bounded_blocks.proofs.Needs.{need-most}
use Rattle.bounded_blocks.proofs.CodeLengths.{length-codes_of-most}
use Rattle.slice_encoder.specs.Trials.{CodedComponent, CodedPicture, luma_list, colour_list, c1_of, c2_of}
use Rattle.slice_encoder.specs.TrialLaws.{AreSmallValues}
use Rattle.slice_encoder.specs.Tries.{tried, IsTried}
use Rattle.slice_encoder.specs.Ready.{IsReadyToWrite}
use Rattle.slice_encoder.specs.Listing.{band_part, pair_part}
use Rattle.slice_encoder.specs.Gathering.{GatheredSeen, AreGathered, gathered_values, gathered_pairs}
use Rattle.slice_encoder.proofs.Reaches.{luma_parts, colour_parts}
use Rattle.slice_encoder.proofs.GatheredLists.{pieces_are, pairs_are_high}
use Rattle.slice_encoder.proofs.RestoredNeeds.{lowest_luma_small, lowest_colour_small}
use Rattle.slice_encoder.proofs.WholeTrial.{grid_is, all_small, luma_small, colour_small, length_luma, length_colour}

module _ (c : CodedComponent) (d sx sy index : ℕ) (old kept : Raster ℤ) (le : index ≤ 127) (shallow : c.slicing.depth ≤ 4) (few : d ≤ 16) (ready : IsReadyToWrite c d sx sy old) (was : IsTried c sx sy index old kept) where
  pub lumas_small : AreSmallValues (luma_list c (tried c sx sy index (at old)) index sx sy)
  lumas_small = luma_small c d sx sy index old le shallow few ready

  pub luma_front_small : AreSmallValues (band_part c kept index sx sy 0)
  luma_front_small = lowest_luma_small c index sx sy kept (tried c sx sy index (at old)) (grid_is c d sx sy index old le shallow few ready kept was) lumas_small

  pub luma_need_most : need (luma_list c (tried c sx sy index (at old)) index sx sy) ≤ 75 * place_count c.slicing c.size sx sy
  luma_need_most =
      let all = luma_list c (tried c sx sy index (at old)) index sx sy in
      omega (arith, need-most (codes_of all), length-codes_of-most all lumas_small, length_luma c (tried c sx sy index (at old)) index sx sy)

  pub luma_whole : (g : GatheredSeen) (front : List ℤ) → AreGathered c.slicing c.size c.bands sx sy g → front ≡ band_part c kept index sx sy 0
      → front ++ gathered_values g c.matrix index ≡ luma_list c (tried c sx sy index (at old)) index sx sy
  luma_whole g front gathered is =
      ap (λ (t : List ℤ). t ++ gathered_values g c.matrix index) is
      ∙ ap (λ (t : List ℤ). band_part c kept index sx sy 0 ++ t) (pieces_are c index sx sy g gathered)
      ∙ sym (luma_parts c kept index sx sy)
      ∙ ap (λ (h : Grid). luma_list c h index sx sy) (grid_is c d sx sy index old le shallow few ready kept was)

module _ (j : CodedPicture) (d sx sy index : ℕ) (old1 kept1 old2 kept2 : Raster ℤ) (le : index ≤ 127) (shallow : j.slicing.depth ≤ 4) (few : d ≤ 16) (ready1 : IsReadyToWrite (c1_of j) d sx sy old1) (was1 : IsTried (c1_of j) sx sy index old1 kept1)
    (ready2 : IsReadyToWrite (c2_of j) d sx sy old2) (was2 : IsTried (c2_of j) sx sy index old2 kept2) where
  pub colours_small : AreSmallValues (colour_list (c1_of j) (c2_of j) (tried (c1_of j) sx sy index (at old1)) (tried (c2_of j) sx sy index (at old2)) index sx sy)
  colours_small =
      colour_small (c1_of j) (c2_of j) (tried (c1_of j) sx sy index (at old1)) (tried (c2_of j) sx sy index (at old2)) index sx sy
      (all_small (c1_of j) d sx sy index old1 le shallow few ready1) (all_small (c2_of j) d sx sy index old2 le shallow few ready2)

  pub colour_front_small : AreSmallValues (pair_part (c1_of j) (c2_of j) kept1 kept2 index sx sy 0)
  colour_front_small =
      lowest_colour_small j index sx sy kept1 kept2 (tried (c1_of j) sx sy index (at old1)) (tried (c2_of j) sx sy index (at old2))
      (grid_is (c1_of j) d sx sy index old1 le shallow few ready1 kept1 was1) (grid_is (c2_of j) d sx sy index old2 le shallow few ready2 kept2 was2) colours_small

  pub colour_need_most : need (colour_list (c1_of j) (c2_of j) (tried (c1_of j) sx sy index (at old1)) (tried (c2_of j) sx sy index (at old2)) index sx sy) ≤ 75 * (2 * place_count j.slicing j.frame.colour sx sy)
  colour_need_most =
      let all = colour_list (c1_of j) (c2_of j) (tried (c1_of j) sx sy index (at old1)) (tried (c2_of j) sx sy index (at old2)) index sx sy in
      omega (arith, need-most (codes_of all), length-codes_of-most all colours_small, length_colour (c1_of j) (c2_of j) (tried (c1_of j) sx sy index (at old1)) (tried (c2_of j) sx sy index (at old2)) index sx sy)

  pub colour_whole : (g h : GatheredSeen) (front : List ℤ) → AreGathered j.slicing j.frame.colour j.coefficients.c1 sx sy g → AreGathered j.slicing j.frame.colour j.coefficients.c2 sx sy h
      → front ≡ pair_part (c1_of j) (c2_of j) kept1 kept2 index sx sy 0
      → front ++ gathered_pairs g h j.matrix index ≡ colour_list (c1_of j) (c2_of j) (tried (c1_of j) sx sy index (at old1)) (tried (c2_of j) sx sy index (at old2)) index sx sy
  colour_whole g h front gathered1 gathered2 is =
      ap (λ (t : List ℤ). t ++ gathered_pairs g h j.matrix index) is
      ∙ ap (λ (t : List ℤ). pair_part (c1_of j) (c2_of j) kept1 kept2 index sx sy 0 ++ t) (pairs_are_high j index sx sy g h gathered1 gathered2)
      ∙ sym (colour_parts j kept1 kept2 index sx sy)
      ∙ ap (λ (k : Grid). colour_list (c1_of j) (c2_of j) k (at kept2) index sx sy) (grid_is (c1_of j) d sx sy index old1 le shallow few ready1 kept1 was1)
      ∙ ap (λ (k : Grid). colour_list (c1_of j) (c2_of j) (tried (c1_of j) sx sy index (at old1)) k index sx sy) (grid_is (c2_of j) d sx sy index old2 le shallow few ready2 kept2 was2)
