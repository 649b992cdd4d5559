-- Bands from one slice to the next, in 32 bits and in 64.
use Rattle.std.proofs.Common.{◌≡◌, ℕ, ◌-◌, ◌^◌, ◌<◌, inl, refl, sym, ap, subst, ◌∙◌, arith, []}
use Rattle.std.specs.Prelude.{ℤ, pos, replicate, slice_index_or, Bool, true, false, if◌then◌else◌}
use Rattle.std.proofs.lemmas.Int.{ints}
use Rattle.std.proofs.lemmas.List.{get_or-replicate, length-replicate}
use Rattle.planes.specs.Numbers.{Within}
use Rattle.planes.specs.Raster.{Raster, height, at, zeros}
use Rattle.planes.specs.Bounded.{IsWithin, AreBandsWithin}
use Rattle.planes.specs.Subbands.{BandStack, BandExists, band_of, subband_length, HaveSizes, AreZeroBands, AgreeInSizes}
use Rattle.planes.specs.declared.Trio.{Trio}
use Rattle.planes.specs.declared.NarrowTrio.{NarrowTrio}
use Rattle.dc_prediction.specs.Prediction.{reach}
use Rattle.slice_geometry.specs.declared.Size.{Size}
use Rattle.slice_geometry.specs.declared.PictureShape.{PictureShape}
use Rattle.slice_geometry.specs.Slicing.{Slicing}
use Rattle.slice_geometry.specs.Geometry.{padded_length}
use Rattle.slice_decoder.specs.Decoded.{IsReady, AreReady, KeepsOthers, AllKeepOthers}
use Rattle.slice_decoder.specs.Narrow.{trio_of}
use Rattle.picture_codec.specs.DecodedBands.{AllAgree}

-- ---- bands of zeros

at-zeros : (w h y x : ℕ) → y < h → x < w → at (zeros w h) y x ≡ pos 0
at-zeros w h y x y_in x_in = ap (λ row. slice_index_or row x (pos 0)) (get_or-replicate h y (replicate w (pos 0)) [] y_in) ∙ get_or-replicate w x (pos 0) (pos 0) x_in

zero_within : IsWithin (pos (2 ^ 18)) (pos 0)
zero_within = record { low = omega (arith, ints); high = omega (arith, ints) }

pub zeros_within : (b : BandStack) (depth w h : ℕ) → AreZeroBands b depth w h → AreBandsWithin (pos (2 ^ 18)) b
zeros_within b depth w h zero level orient exists y x y_in x_in =
    let Exists : ℕ → Type 0 = λ d. BandExists d level orient in
    let e : band_of b level orient ≡ zeros (subband_length depth level w) (subband_length depth level h) = zero.each level orient (subst Exists zero.same_depth exists) in
    let down : y < subband_length depth level h = omega (arith, y_in, ap (λ (p : Raster ℤ). height p) e, length-replicate (subband_length depth level h) (replicate (subband_length depth level w) (pos 0))) in
    let across : x < subband_length depth level w = omega (arith, x_in, ap (λ (p : Raster ℤ). p.w) e) in
    subst (λ (p : Raster ℤ). IsWithin (pos (2 ^ 18)) (at p y x)) (sym e)
    (subst (λ (v : ℤ). IsWithin (pos (2 ^ 18)) v) (sym (at-zeros (subband_length depth level w) (subband_length depth level h) y x down across)) zero_within)

pub zeros_agree : (a b : BandStack) (depth w h : ℕ) → AreZeroBands a depth w h → AreZeroBands b depth w h → AgreeInSizes a b
zeros_agree a b depth w h za zb = record {
  same_depth = za.same_depth ∙ sym zb.same_depth;
  widths = λ level orient exists. ap (λ (p : Raster ℤ). p.w) (same level orient exists);
  heights = λ level orient exists. ap (λ (p : Raster ℤ). height p) (same level orient exists);
}
  where
    same : (level orient : ℕ) → BandExists a.depth level orient → band_of a level orient ≡ band_of b level orient
    same level orient exists =
        let there : BandExists depth level orient = (let Exists : ℕ → Type 0 = λ d. BandExists d level orient in subst Exists za.same_depth exists) in
        za.each level orient there ∙ sym (zb.each level orient there)

-- ---- a slice that keeps all other places

module _ (s : Slicing) (size : Size) (sx sy : ℕ) (old new : BandStack) (keeps : KeepsOthers s size sx sy old new) where
  pub sizes_after : (w h : ℕ) → old.depth ≡ s.depth → HaveSizes old w h → HaveSizes new w h
  sizes_after w h deep sizes = record {
    widths = λ level orient is.
        (keeps.bands level orient (subst (λ d. BandExists d level orient) (keeps.same_depth ∙ deep) is)).same_width
        ∙ sizes.widths level orient (subst (λ d. BandExists d level orient) keeps.same_depth is)
        ∙ ap (λ d. subband_length d level w) (sym keeps.same_depth);
    heights = λ level orient is.
        (keeps.bands level orient (subst (λ d. BandExists d level orient) (keeps.same_depth ∙ deep) is)).same_height
        ∙ sizes.heights level orient (subst (λ d. BandExists d level orient) keeps.same_depth is)
        ∙ ap (λ d. subband_length d level h) (sym keeps.same_depth);
  }

  -- what is looked at outside the slice is as it was
  pub ready_after : IsReady s size sx sy old → IsReady s size sx sy new
  ready_after ready =
      let stays = (keeps.bands 0 0 (inl (refl, refl))).outside in
      record {
        depth = keeps.same_depth ∙ ready.depth;
        sizes = sizes_after (padded_length s.depth size.w) (padded_length s.depth size.h) ready.depth ready.sizes;
        outside = λ y x there.
            let seen = ready.outside y x there in
            record {
              left = λ some out. subst (λ v. Within (reach y (x - 1)) v) (sym (stays y (x - 1) out)) (seen.left some out);
              above = λ some out. subst (λ v. Within (reach (y - 1) x) v) (sym (stays (y - 1) x out)) (seen.above some out);
              corner = λ some_y some_x out. subst (λ v. Within (reach (y - 1) (x - 1)) v) (sym (stays (y - 1) (x - 1) out)) (seen.corner some_y some_x out);
            };
      }

  pub keeps_both : (last : BandStack) → KeepsOthers s size sx sy new last → KeepsOthers s size sx sy old last
  keeps_both last next = record {
    same_depth = next.same_depth ∙ keeps.same_depth;
    bands = λ level orient is.
        let before = keeps.bands level orient is in
        let after = next.bands level orient is in
        record {
          same_width = after.same_width ∙ before.same_width;
          same_height = after.same_height ∙ before.same_height;
          outside = λ y x out. after.outside y x out ∙ before.outside y x out;
        };
  }

  -- other bands of the same sizes keep them
  pub first_agrees : (b : BandStack) → old.depth ≡ s.depth → AgreeInSizes old b → AgreeInSizes new b
  first_agrees b deep agree = record {
    same_depth = keeps.same_depth ∙ agree.same_depth;
    widths = λ level orient is.
        (keeps.bands level orient (subst (λ d. BandExists d level orient) (keeps.same_depth ∙ deep) is)).same_width
        ∙ agree.widths level orient (subst (λ d. BandExists d level orient) keeps.same_depth is);
    heights = λ level orient is.
        (keeps.bands level orient (subst (λ d. BandExists d level orient) (keeps.same_depth ∙ deep) is)).same_height
        ∙ agree.heights level orient (subst (λ d. BandExists d level orient) keeps.same_depth is);
  }

  pub second_agrees : (a : BandStack) → old.depth ≡ s.depth → AgreeInSizes a old → AgreeInSizes a new
  second_agrees a deep agree = record {
    same_depth = agree.same_depth ∙ sym keeps.same_depth;
    widths = λ level orient is.
        agree.widths level orient is
        ∙ sym (keeps.bands level orient (subst (λ d. BandExists d level orient) (agree.same_depth ∙ deep) is)).same_width;
    heights = λ level orient is.
        agree.heights level orient is
        ∙ sym (keeps.bands level orient (subst (λ d. BandExists d level orient) (agree.same_depth ∙ deep) is)).same_height;
  }

-- ---- all three components

module _ (s : Slicing) (shape : PictureShape) (sx sy : ℕ) where
  pub all_ready_after : (old new : Trio) → AllKeepOthers s shape sx sy old new → AreReady s shape sx sy old → AreReady s shape sx sy new
  all_ready_after old new keeps ready = record {
    luma = ready_after s shape.luma sx sy old.luma new.luma keeps.luma ready.luma;
    c1 = ready_after s shape.colour sx sy old.c1 new.c1 keeps.c1 ready.c1;
    c2 = ready_after s shape.colour sx sy old.c2 new.c2 keeps.c2 ready.c2;
  }

  pub all_keep_both : (old new last : Trio) → AllKeepOthers s shape sx sy old new → AllKeepOthers s shape sx sy new last → AllKeepOthers s shape sx sy old last
  all_keep_both old new last keeps next = record {
    luma = keeps_both s shape.luma sx sy old.luma new.luma keeps.luma last.luma next.luma;
    c1 = keeps_both s shape.colour sx sy old.c1 new.c1 keeps.c1 last.c1 next.c1;
    c2 = keeps_both s shape.colour sx sy old.c2 new.c2 keeps.c2 last.c2 next.c2;
  }

  pub narrow_agree : (old new : NarrowTrio) (wide : Trio) → AllKeepOthers s shape sx sy (trio_of old) (trio_of new) → AreReady s shape sx sy (trio_of old) → AllAgree old wide → AllAgree new wide
  narrow_agree old new wide keeps ready agree = record {
    luma = first_agrees s shape.luma sx sy old.luma new.luma keeps.luma wide.luma ready.luma.depth agree.luma;
    c1 = first_agrees s shape.colour sx sy old.c1 new.c1 keeps.c1 wide.c1 ready.c1.depth agree.c1;
    c2 = first_agrees s shape.colour sx sy old.c2 new.c2 keeps.c2 wide.c2 ready.c2.depth agree.c2;
  }

  pub wide_agree : (narrow : NarrowTrio) (old new : Trio) → AllKeepOthers s shape sx sy old new → AreReady s shape sx sy old → AllAgree narrow old → AllAgree narrow new
  wide_agree narrow old new keeps ready agree = record {
    luma = second_agrees s shape.luma sx sy old.luma new.luma keeps.luma narrow.luma ready.luma.depth agree.luma;
    c1 = second_agrees s shape.colour sx sy old.c1 new.c1 keeps.c1 narrow.c1 ready.c1.depth agree.c1;
    c2 = second_agrees s shape.colour sx sy old.c2 new.c2 keeps.c2 narrow.c2 ready.c2.depth agree.c2;
  }

-- bands agree with themselves
pub copies_agree : (narrow : NarrowTrio) → AllAgree narrow (trio_of narrow)
copies_agree narrow = record { luma = same narrow.luma; c1 = same narrow.c1; c2 = same narrow.c2 }
  where
    same : (b : BandStack) → AgreeInSizes b b
    same b = record { same_depth = refl; widths = λ level orient is. refl; heights = λ level orient is. refl }

-- ---- the bands that serve

module _ (is_wide : Bool) (wide : Trio) (narrow : NarrowTrio) where
  pub wide_serve : is_wide ≡ true → (if is_wide then wide else trio_of narrow) ≡ wide
  wide_serve e = ap (λ (b : Bool). if b then wide else trio_of narrow) e

  pub narrow_serve : is_wide ≡ false → (if is_wide then wide else trio_of narrow) ≡ trio_of narrow
  narrow_serve e = ap (λ (b : Bool). if b then wide else trio_of narrow) e
