-- The code's way of trying gives what is tried.
use Rattle.std.proofs.Common.{◌≡◌, ◌∙◌, sym, ap, subst, refl, ℕ, ◌+◌, ◌-◌, ◌*◌, ◌^◌, ◌<◌, ◌≤◌, cond, arith, inl, inr, ℤ}
use Rattle.std.proofs.Math.Nat.{pow-le-pow_right}
use Rattle.planes.specs.Numbers.{Within}
use Rattle.planes.specs.declared.Rect.{Rect}
use Rattle.planes.specs.Raster.{Grid, Raster, at}
use Rattle.planes.specs.Rect.{IsInRect}
use Rattle.planes.proofs.Floors.{wider}
use Rattle.dc_prediction.specs.Prediction.{prediction}
use Rattle.dc_prediction.proofs.Rectangles.{in_rect_or_not}
use Rattle.slice_geometry.specs.Geometry.{band_size}
use Rattle.quant_factors.specs.Weights.{band_quantiser}
use Rattle.slice_geometry.specs.SliceOrder.{level_rect}
use Rattle.slice_geometry.proofs.RectsInBands.{end_inside}
use Rattle.slice_encoder.specs.Loop.{PlaceRule, restored_value}
use Rattle.slice_encoder.specs.Trials.{CodedComponent, coefficient}
use Rattle.slice_encoder.specs.Tries.{in_rect, tried, IsTried}
use Rattle.slice_encoder.specs.RectTrials.{CanTryRect, TriesRect}
use Rattle.slice_encoder.specs.TrialLaws.{most_coefficient}
use Rattle.slice_encoder.specs.Ready.{IsReadyToWrite}
use Rattle.slice_encoder.proofs.Made.{made_again}
use Rattle.slice_encoder.proofs.Continues.{in_rect-yes, in_rect-no}

pub coefficient_most : (depth d : ℕ) → depth ≤ 4 → d ≤ 16 → most_coefficient depth d ≤ 2 ^ 27
coefficient_most depth d le small = pow-le-pow_right {n = 2} (omega arith) {i = d - 1 + 3 * depth} {j = 27} (omega arith)

pub rect_is_tried : (c : CodedComponent) (sx sy index q : ℕ) (rect : Rect) (old new : Raster ℤ) → rect ≡ level_rect c.slicing c.size sx sy 0 → q ≡ band_quantiser c.matrix index 0 0
    → TriesRect (coefficient c 0 0) q rect old new → IsTried c sx sy index old new
unfolding tried
rect_is_tried c sx sy index q rect old new rect_is q_is n0 =
    let n1 = subst (λ (r : Rect). TriesRect (coefficient c 0 0) q r old new) rect_is n0 in
    let n = subst (λ (k : ℕ). TriesRect (coefficient c 0 0) k (level_rect c.slicing c.size sx sy 0) old new) q_is n1 in
    let r = level_rect c.slicing c.size sx sy 0 in
    let f : PlaceRule = λ y x p. cond (in_rect r y x) (restored_value (coefficient c 0 0 y x) (band_quantiser c.matrix index 0 0) p) (at old y x) in
    record {
      same_width = n.same_width;
      same_height = n.same_height;
      places = made_again f (at new) (λ y x.
          let v : ℤ = restored_value (coefficient c 0 0 y x) (band_quantiser c.matrix index 0 0) (prediction (at new) y x) in
          elim (in_rect_or_not r y x) as (λ _. at new y x ≡ cond (in_rect r y x) (restored_value (coefficient c 0 0 y x) (band_quantiser c.matrix index 0 0) (prediction (at new) y x)) (at old y x)) [
            | inl here ↦ n.done y x here ∙ sym (ap (λ b. cond b v (at old y x)) (in_rect-yes r y x here))
            | inr not ↦ n.stays y x not ∙ sym (ap (λ b. cond b v (at old y x)) (in_rect-no r y x not))
          ]);
    }

pub can_try_rect : (c : CodedComponent) (d sx sy : ℕ) (rect : Rect) (g : Grid) (kept : Raster ℤ) → c.slicing.depth ≤ 4 → d ≤ 16 → sx < c.slicing.slices_x → sy < c.slicing.slices_y
    → rect ≡ level_rect c.slicing c.size sx sy 0 → ((y x : ℕ) → IsInRect rect y x → g y x ≡ coefficient c 0 0 y x) → IsReadyToWrite c d sx sy kept → CanTryRect rect g kept
can_try_rect c d sx sy rect g kept shallow few across down rect_is same ready =
    let band = band_size c.slicing.depth 0 c.size in
    let most = coefficient_most c.slicing.depth d shallow few in
    let same_here = λ (y x : ℕ) (here : IsInRect (level_rect c.slicing c.size sx sy 0) y x). same y x (subst (λ (r : Rect). IsInRect r y x) (sym rect_is) here) in
    subst (λ (r : Rect). CanTryRect r g kept) (sym rect_is) (record {
      x_inside = omega (arith, end_inside band.w c.slicing.slices_x sx across, ready.kept_size.0);
      y_inside = omega (arith, end_inside band.h c.slicing.slices_y sy down, ready.kept_size.1);
      small = λ y x here. subst (λ (v : ℤ). Within (2 ^ 27) v) (sym (same_here y x here)) (wider (most_coefficient c.slicing.depth d) (2 ^ 27) _ most (ready.small 0 0 y x (inl (refl, refl))));
      outside = λ y x here. record {
        left = λ some not. wider (3 * most_coefficient c.slicing.depth d + 2) (3 * 2 ^ 27 + 2) _ (omega (arith, most)) ((ready.outside y x here).left some not);
        above = λ some not. wider (3 * most_coefficient c.slicing.depth d + 2) (3 * 2 ^ 27 + 2) _ (omega (arith, most)) ((ready.outside y x here).above some not);
        corner = λ some more not. wider (3 * most_coefficient c.slicing.depth d + 2) (3 * 2 ^ 27 + 2) _ (omega (arith, most)) ((ready.outside y x here).corner some more not);
      };
    })
