-- What the first levels of synthesis ask of their rooms, and leave there.
use Rattle.std.specs.Prelude.{◌≡◌, ℕ, ℤ, ◌+◌, ◌-◌, ◌*◌, ◌%◌, ◌^◌, ◌≤◌}
use Rattle.lifting.specs.declared.Wavelet.{Wavelet}
use Rattle.lifting.specs.Bands.{lowest, coefficients_in}
use Rattle.lifting.specs.Transform.{Grid, synthesis}
use Rattle.lifting.specs.Ranges.{SameInside}
use Rattle.planes.specs.Raster.{Raster, height}
use Rattle.planes.specs.Subbands.{BandsOf, HaveSizes}
use Rattle.planes.specs.Valued.{grid_of}

-- The bands are those of a component of w by h, multiples of 2 ^ depth. The plane and the scratch have room for so many levels.
pub record HaveLevelRoom {X : Type 0} (b : BandsOf X) (levels w h : ℕ) (plane scratch : Raster X) : Type 0 where
  pub whole_columns : w % 2 ^ b.depth ≡ 0
  pub whole_rows : h % 2 ^ b.depth ≡ 0
  pub bands : HaveSizes b w h
  pub columns : lowest b.depth w * 2 ^ levels ≤ plane.w
  pub rows : lowest b.depth h * 2 ^ levels ≤ height plane
  pub scratch_columns : lowest b.depth w * 2 ^ levels ≤ scratch.w
  pub scratch_rows : lowest b.depth h * 2 ^ levels ≤ height scratch

-- the last rows of a plane, so many
abbrev pub last_rows : {X : Type 0} → (X → ℤ) → X → ℕ → Raster X → Grid
last_rows value none rows plane y = grid_of value none plane (height plane - rows + y)

-- The plane's last rows hold what so many levels make of the bands of a component of w by h, in their first columns.
abbrev pub HoldsLevels : {X : Type 0} → (X → ℤ) → X → Wavelet → BandsOf X → ℕ → ℕ → ℕ → Raster X → Type 0
HoldsLevels value none k b w h levels plane =
    SameInside (lowest b.depth h * 2 ^ levels) (lowest b.depth w * 2 ^ levels) (last_rows value none (lowest b.depth h * 2 ^ levels) plane)
    (synthesis k (lowest b.depth h) (lowest b.depth w) (coefficients_in value none b) levels)
