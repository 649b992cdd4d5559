-- What the synthesis of samples asks of its rooms.
use Rattle.std.specs.Prelude.{◌≡◌, ℕ, ℤ, pos, ◌+◌, ◌<◌, slice_index_or, ◌*◌, ◌/◌, ◌%◌, ◌^◌, ◌≤◌, List, length}
use Rattle.lifting.specs.declared.Wavelet.{Wavelet}
use Rattle.lifting.specs.Transform.{Grid, synthesis}
use Rattle.lifting.specs.Clipping.{sample_of}
use Rattle.lifting.specs.Ranges.{BandsWithin}
use Rattle.lifting.specs.Bands.{coefficients_of, coefficients_in, lowest, AreIn}
use Rattle.bit_codes.specs.declared.TheConstants.{MAX_MAGNITUDE}
use Rattle.planes.specs.Raster.{Raster, height}
use Rattle.planes.specs.Subbands.{BandStack, BandsOf, HaveSizes}
use Rattle.lifting.specs.declared.SampleArea.{SampleArea}

-- The bands are those of a component of w by h, multiples of 2 ^ depth and at least 1. The plane has room for the levels
-- below the last, and the scratch for their rows and for three of the last.
pub record HaveRoom {X : Type 0} (b : BandsOf X) (w h : ℕ) (plane scratch : Raster X) : Type 0 where
  pub some_columns : 1 ≤ w
  pub some_rows : 1 ≤ h
  pub low : h ≤ 8208
  pub whole_columns : w % 2 ^ b.depth ≡ 0
  pub whole_rows : h % 2 ^ b.depth ≡ 0
  pub bands : HaveSizes b w h
  pub columns : w / 2 ≤ plane.w
  pub rows : h / 2 ≤ height plane
  pub scratch_columns : w ≤ scratch.w
  pub scratch_rows : h / 2 ≤ height scratch
  pub three_rows : 3 ≤ height scratch

-- an area of a component of w by h, in 1 to 16 bits, and as many samples
pub record IsShownArea (area : SampleArea) (w h : ℕ) (samples : List ℕ) : Type 0 where
  pub some_bits : 1 ≤ area.depth
  pub bits : area.depth ≤ 16
  pub count : length samples ≡ area.h * area.w
  pub few : area.h * area.w ≤ 2 ^ 30
  pub across : area.w ≤ w
  pub down : area.h ≤ h

-- an area's samples, each in 1 to `most` bits
abbrev pub HoldsArea : ℕ → SampleArea → List ℕ → Type 0
HoldsArea most area samples = (1 ≤ area.depth) × (area.depth ≤ most) × (length samples ≡ area.h * area.w) × (area.h * area.w ≤ 2 ^ 30)

-- of an area the samples of its first rows, so many, are those of a grid
abbrev pub AreSamplesTo : ℕ → SampleArea → List ℕ → Grid → Type 0
AreSamplesTo rows area samples g = (y x : ℕ) → y < rows → y < area.h → x < area.w → slice_index_or samples (y * area.w + x) 0 ≡ sample_of area.depth (g y x)

-- the bands of a component of w by h: all magnitudes are at most 2 ^ 18
abbrev pub AreNarrowIn : BandStack → ℕ → ℕ → Type 0
AreNarrowIn b w h = AreIn (λ v. v) (pos 0) (2 ^ 18) b w h

-- Those of the lowest band are at most 2 ^ 50, and those of the others at most 2 ^ 36.
abbrev pub AreSmallIn : BandStack → ℕ → ℕ → Type 0
AreSmallIn b w h = BandsWithin (lowest b.depth h) (lowest b.depth w) b.depth (2 ^ 50) MAX_MAGNITUDE (coefficients_of b)

-- and their synthesis
abbrev pub synthesis_in : {X : Type 0} → (X → ℤ) → X → Wavelet → BandsOf X → ℕ → ℕ → Grid
synthesis_in value none k b w h = synthesis k (lowest b.depth h) (lowest b.depth w) (coefficients_in value none b) b.depth

-- the same of 64 bits
abbrev pub synthesis_of : Wavelet → BandStack → ℕ → ℕ → Grid
synthesis_of k b w h = synthesis_in (λ v. v) (pos 0) k b w h
