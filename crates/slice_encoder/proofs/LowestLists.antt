-- The coefficients of a slice in a lowest subband, as they stand in a list.
use Rattle.std.proofs.Common.{◌≡◌, ◌∙◌, sym, ap, subst, ℕ, List, length, get_or, arith, ℤ, pos}
use Rattle.std.specs.Prelude.{slice_index}
use Rattle.planes.specs.Raster.{Grid, Raster, at}
use Rattle.planes.specs.Rect.{IsInRect}
use Rattle.planes.specs.Subbands.{BandStack}
use Rattle.planes.specs.declared.Rect.{Rect}
use Rattle.slice_geometry.specs.declared.Size.{Size}
use Rattle.slice_geometry.specs.Slicing.{Slicing}
use Rattle.slice_geometry.specs.SliceOrder.{level_rect, area, number_in, numbered}
use Rattle.dc_prediction.specs.Prediction.{prediction}
use Rattle.slice_encoder.specs.Listing.{rect_values}
use Rattle.slice_encoder.specs.Loop.{restored_value}
use Rattle.slice_encoder.specs.RectTrials.{grid_in, TriesRect}
use Rattle.slice_encoder.specs.Gathering.{GatheredSeen, lowest_of, AreGathered}
use Rattle.slice_encoder.proofs.Gathers.{first_count}
use Rattle.slice_encoder.proofs.SliceRuns.{value_numbered}

module _ (s : Slicing) (size : Size) (bands : BandStack) (sx sy : ℕ) (g : GatheredSeen) (gathered : AreGathered s size bands sx sy g) (rect : Rect) (rect_is : rect ≡ level_rect s size sx sy 0) (list : List ℤ) where
  pub lowest_count : length list ≡ slice_index g.ends 0 → length list ≡ area rect
  lowest_count is = is ∙ gathered.ends 0 (omega arith) ∙ first_count s size bands sx sy ∙ sym (ap area rect_is)

  pub lowest_same : list ≡ lowest_of g → (y x : ℕ) → IsInRect rect y x → grid_in rect list y x ≡ at (numbered bands 0) y x
  lowest_same is y x here =
      let r : Rect = level_rect s size sx sy 0 in
      ap (λ (t : List ℤ). get_or t (number_in rect y x) (pos 0)) (is ∙ gathered.lowest)
      ∙ ap (λ (q : Rect). get_or (rect_values (at (numbered bands 0)) r) (number_in q y x) (pos 0)) rect_is
      ∙ value_numbered (at (numbered bands 0)) r y x (subst (λ (q : Rect). IsInRect q y x) rect_is here)

-- the same places tried of the same coefficients
pub tries_same : (g h : Grid) (q : ℕ) (r : Rect) (old new : Raster ℤ) → ((y x : ℕ) → IsInRect r y x → g y x ≡ h y x) → TriesRect g q r old new → TriesRect h q r old new
tries_same g h q r old new same t = record {
  same_width = t.same_width;
  same_height = t.same_height;
  done = λ j i here. t.done j i here ∙ ap (λ (v : ℤ). restored_value v q (prediction (at new) j i)) (same j i here);
  small = t.small;
  stays = t.stays;
}
