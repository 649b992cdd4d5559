-- Subbands whose numbers keep a bound.
use Rattle.std.specs.Prelude.{ℕ, ℤ, neg_ℤ, ◌<◌, ◌≤ℤ◌}
use Rattle.planes.specs.Raster.{Raster, height, at}
use Rattle.planes.specs.Subbands.{BandStack, BandExists, band_of}

-- The magnitude of z is at most b; where b is below 0, none is.
pub record IsWithin (b z : ℤ) : Type 0 where
  pub low : neg_ℤ b ≤ℤ z
  pub high : z ≤ℤ b

-- each number of a plane has a magnitude of at most b
abbrev pub IsPlaneWithin : ℤ → Raster ℤ → Type 0
IsPlaneWithin b p = (y x : ℕ) → y < height p → x < p.w → IsWithin b (at p y x)

-- each number of each band
abbrev pub AreBandsWithin : ℤ → BandStack → Type 0
AreBandsWithin b bands = (level orient : ℕ) → BandExists bands.depth level orient → IsPlaneWithin b (band_of bands level orient)
