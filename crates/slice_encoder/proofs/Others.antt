-- What encoding a slice leaves of the other slices' places.
use Rattle.std.specs.Prelude.{◌≡◌, ℕ, ℤ}
use Rattle.planes.specs.declared.ThreePlanes.{ThreePlanes}
use Rattle.planes.specs.Raster.{Raster, height, at}
use Rattle.planes.specs.Rect.{IsInRect}
use Rattle.slice_geometry.specs.SliceOrder.{level_rect}
use Rattle.slice_encoder.specs.Trials.{CodedComponent, CodedPicture, luma_of, c1_of, c2_of}

-- All places but the slice's are as they were.
pub record KeepsOthers (c : CodedComponent) (sx sy : ℕ) (old new : Raster ℤ) : Type 0 where
  pub same_width : new.w ≡ old.w
  pub same_height : height new ≡ height old
  pub places : (y x : ℕ) → (IsInRect (level_rect c.slicing c.size sx sy 0) y x → ⊥) → at new y x ≡ at old y x

pub record AllKeepOthers (j : CodedPicture) (sx sy : ℕ) (old new : ThreePlanes) : Type 0 where
  pub luma : KeepsOthers (luma_of j) sx sy old.luma new.luma
  pub c1 : KeepsOthers (c1_of j) sx sy old.c1 new.c1
  pub c2 : KeepsOthers (c2_of j) sx sy old.c2 new.c2
