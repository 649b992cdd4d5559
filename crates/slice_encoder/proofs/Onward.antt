-- The next slice is ready.
use Rattle.std.proofs.Common.{◌≡◌, sym, subst, refl, ℕ, ◌+◌, ◌-◌, ◌*◌, ◌<◌, ◌≤◌, List, length, arith, inl, ℤ}
use Rattle.std.specs.List.{All}
use Rattle.planes.specs.declared.Rect.{Rect}
use Rattle.planes.specs.Numbers.{Within}
use Rattle.planes.specs.Raster.{Raster, at}
use Rattle.planes.specs.Rect.{IsInRect}
use Rattle.dc_prediction.specs.Restoring.{AllLookedAtOutside}
use Rattle.slice_geometry.specs.declared.Size.{Size}
use Rattle.slice_geometry.specs.Slicing.{AreSlicesAllowed, slice_number}
use Rattle.slice_geometry.specs.Geometry.{band_size}
use Rattle.slice_geometry.specs.SliceOrder.{level_rect}
use Rattle.slice_geometry.proofs.RectsInBands.{end_inside}
use Rattle.slice_encoder.specs.Trials.{CodedComponent, slice_holding, luma_of, c1_of, c2_of, IsKept}
use Rattle.slice_encoder.specs.Tries.{KeptHasSize}
use Rattle.slice_encoder.specs.TrialLaws.{IsIndex, most_coefficient}
use Rattle.slice_encoder.specs.Ready.{IsGiven, IsReadyToWrite}
use Rattle.slice_encoder.specs.Ready.{NextIsReady}
use Rattle.slice_encoder.proofs.Near.{stays_near}
use Rattle.slice_encoder.proofs.Holders.{holder_rises}
use Rattle.slice_encoder.proofs.Continues.{earlier, holder_inside}

module _ (c : CodedComponent) (d : ℕ) (indices : List ℕ) (sx sy : ℕ) (p : Raster ℤ) (given : IsGiven c d) (allowed : AreSlicesAllowed c.slicing) (across : sx < c.slicing.slices_x)
    (down : sy < c.slicing.slices_y) (number : length indices ≡ slice_number c.slicing sx sy) (size : KeptHasSize c p) (kept : IsKept c indices p) (all : All IsIndex indices) where
  abbrev band : Size
  band = band_size c.slicing.depth 0 c.size

  abbrev rect : Rect
  rect = level_rect c.slicing c.size sx sy 0

  abbrev most : ℕ
  most = 3 * most_coefficient c.slicing.depth d + 2

  small_before : (j i : ℕ) → j < band.h → i < band.w → slice_holding c.slicing c.size j i ≤ length indices → (IsInRect rect j i → ⊥) → Within most (at p j i)
  small_before j i hj hi le not =
      let before = earlier c indices sx sy 0 p allowed across number size kept j i hj hi le not in
      subst (λ v. Within most v) (sym (kept j i (omega (arith, size.1)) (omega (arith, size.0)) before))
      (stays_near c (most_coefficient c.slicing.depth d) indices all (λ y x. given.small 0 0 y x (inl (refl, refl))) j i).0

  small_outside : AllLookedAtOutside (λ y x. Within most (at p y x)) rect
  small_outside y x here =
      let hy : y < band.h = omega (arith, here.bottom, end_inside band.h c.slicing.slices_y sy down) in
      let hx : x < band.w = omega (arith, here.right, end_inside band.w c.slicing.slices_x sx across) in
      let own = holder_inside c indices sx sy 0 p allowed across number size kept y x here in
      record {
        left = λ some not. small_before y (x - 1) hy (omega arith) (omega (arith, own, holder_rises c.slicing c.size y (x - 1) y x hy hx (omega arith) (omega arith))) not;
        above = λ some not. small_before (y - 1) x (omega arith) hx (omega (arith, own, holder_rises c.slicing c.size (y - 1) x y x hy hx (omega arith) (omega arith))) not;
        corner = λ some more not. small_before (y - 1) (x - 1) (omega arith) (omega arith) (omega (arith, own, holder_rises c.slicing c.size (y - 1) (x - 1) y x hy hx (omega arith) (omega arith))) not;
      }

  pub one_ready : IsReadyToWrite c d sx sy p
  one_ready = record { depth = given.depth; sizes = given.sizes; small = given.small; kept_size = size; outside = small_outside }

pub next_ready : NextIsReady
next_ready j indices sx sy kept given next sizes values all = record {
  across = next.across;
  down = next.down;
  entries = given.entries;
  luma = one_ready (luma_of j) j.frame.luma_depth indices sx sy kept.luma given.luma next.allowed next.across next.down next.number sizes.luma values.luma all;
  c1 = one_ready (c1_of j) j.frame.colour_depth indices sx sy kept.c1 given.c1 next.allowed next.across next.down next.number sizes.c1 values.c1 all;
  c2 = one_ready (c2_of j) j.frame.colour_depth indices sx sy kept.c2 given.c2 next.allowed next.across next.down next.number sizes.c2 values.c2 all;
}
