-- The code's way of counting gives what is counted.
use Rattle.std.proofs.Common.{◌≡◌, ◌∙◌, sym, ap, subst, ℕ, ◌^◌, ◌<◌, ◌≤◌, arith, inr, ℤ}
use Rattle.planes.specs.Numbers.{Within}
use Rattle.planes.specs.declared.Rect.{Rect}
use Rattle.planes.specs.Raster.{Raster, height, at}
use Rattle.planes.specs.Subbands.{BandExists, band_of, subband_length}
use Rattle.planes.proofs.Floors.{wider}
use Rattle.quant_factors.specs.Weights.{band_quantiser}
use Rattle.slice_geometry.specs.declared.Size.{Size}
use Rattle.slice_geometry.specs.Shape.{IsSize}
use Rattle.slice_geometry.specs.Geometry.{padded_length, band_size}
use Rattle.slice_geometry.specs.SliceOrder.{level_rect}
use Rattle.slice_geometry.proofs.RectsInBands.{start_before_end, end_inside}
use Rattle.slice_encoder.specs.Trials.{CodedComponent, coefficient}
use Rattle.slice_encoder.specs.TrialLaws.{most_coefficient}
use Rattle.slice_encoder.specs.Ready.{IsGiven}
use Rattle.slice_encoder.specs.LowNeeds.{rect_bits, band_bits, CanCount}
use Rattle.slice_encoder.proofs.Rooms.{band_most}
use Rattle.slice_encoder.proofs.Tried.{coefficient_most}

module _ (c : CodedComponent) (sx sy level orient : ℕ) (rect : Rect) (band : Raster ℤ) (rect_is : rect ≡ level_rect c.slicing c.size sx sy level) (band_is : band ≡ band_of c.bands level orient) where
  pub band_here : (index q : ℕ) → q ≡ band_quantiser c.matrix index level orient → rect_bits (at band) q rect ≡ band_bits c index sx sy level orient
  band_here index q q_is =
      ap (λ (r : Rect). rect_bits (at band) q r) rect_is
      ∙ ap (λ (b : Raster ℤ). rect_bits (at b) q (level_rect c.slicing c.size sx sy level)) band_is
      ∙ ap (λ (n : ℕ). rect_bits (coefficient c level orient) n (level_rect c.slicing c.size sx sy level)) q_is

  pub can_count : (d : ℕ) → c.slicing.depth ≤ 4 → IsSize c.size.w c.size.h → d ≤ 16 → sx < c.slicing.slices_x → sy < c.slicing.slices_y → 1 ≤ level → level ≤ c.slicing.depth → 1 ≤ orient → orient ≤ 3 → IsGiven c d → CanCount rect band
  can_count d shallow size few across down some most low high given =
      let exists : BandExists c.slicing.depth level orient = inr (some, most, low, high) in
      let same_depth = given.depth in
      let there : BandExists c.bands.depth level orient = inr (some, omega (arith, most, same_depth), low, high) in
      let here : Size = band_size c.slicing.depth level c.size in
      let width : band.w ≡ here.w = ap (λ (p : Raster ℤ). p.w) band_is ∙ given.sizes.widths level orient there ∙ ap (λ (n : ℕ). subband_length n level (padded_length c.slicing.depth c.size.w)) same_depth in
      let tall : height band ≡ here.h = ap (λ (p : Raster ℤ). height p) band_is ∙ given.sizes.heights level orient there ∙ ap (λ (n : ℕ). subband_length n level (padded_length c.slicing.depth c.size.h)) same_depth in
      let wide_most = band_most c.slicing.depth level c.size.w shallow size.width in
      let tall_most = band_most c.slicing.depth level c.size.h shallow size.height in
      let x_end = end_inside here.w c.slicing.slices_x sx across in
      let y_end = end_inside here.h c.slicing.slices_y sy down in
      let bound = coefficient_most c.slicing.depth d shallow few in
      subst (λ (r : Rect). CanCount r band) (sym rect_is) (record {
        across = start_before_end here.w c.slicing.slices_x sx across;
        down = start_before_end here.h c.slicing.slices_y sy down;
        x_inside = omega (arith, x_end, width);
        y_inside = omega (arith, y_end, tall);
        narrow = omega (arith, x_end, wide_most);
        short = omega (arith, y_end, tall_most);
        small = λ y x. subst (λ (p : Raster ℤ). Within (2 ^ 27) (at p y x)) (sym band_is) (wider (most_coefficient c.slicing.depth d) (2 ^ 27) _ bound (given.small level orient y x exists));
      })
