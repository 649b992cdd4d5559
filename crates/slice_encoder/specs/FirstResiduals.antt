-- The residuals of the first places of a slice's lowest subbands, before they are quantised.
use Rattle.std.specs.Prelude.{◌≡◌, ℕ, ◌-◌, ◌≤◌, ◌&&◌, nat_lt, if◌then◌else◌, length, unsigned_abs, ℤ, pos, ◌-ℤ◌}
use Rattle.bit_codes.specs.Codes.{signed_code_of}
use Rattle.bit_codes.specs.declared.TheConstants.{MAX_MAGNITUDE}
use Rattle.planes.specs.Raster.{Grid, at}
use Rattle.planes.specs.declared.Rect.{Rect}
use Rattle.planes.specs.declared.ThreePlanes.{ThreePlanes}
use Rattle.dc_prediction.specs.Prediction.{prediction}
use Rattle.quant_factors.specs.Factors.{forward_of}
use Rattle.slice_geometry.specs.SliceOrder.{level_rect}
use Rattle.slice_encoder.specs.declared.first_residuals.FirstResiduals.{FirstResiduals}
use Rattle.slice_encoder.specs.Trials.{CodedComponent, coefficient, CodedPicture, luma_of, c1_of, c2_of}

-- the residual of a rectangle's first place: its coefficient less its prediction, from what was kept outside the rectangle;
-- 0 where there is no place
abbrev pub first_in : Rect → Grid → Grid → ℤ
first_in r coefficients kept =
    if nat_lt r.x0 r.x1 && nat_lt r.y0 r.y1 then coefficients r.y0 r.x0 -ℤ prediction kept r.y0 r.x0 else pos 0

-- that of a component's lowest subband in slice (sx, sy)
abbrev pub first_residual : CodedComponent → ℕ → ℕ → Grid → ℤ
first_residual c sx sy kept = first_in (level_rect c.slicing c.size sx sy 0) (coefficient c 0 0) kept

-- These are the first residuals of slice (sx, sy) in all three components.
pub record AreFirst (j : CodedPicture) (sx sy : ℕ) (kept : ThreePlanes) (f : FirstResiduals) : Type 0 where
  pub luma : f.luma ≡ first_residual (luma_of j) sx sy (at kept.luma)
  pub c1 : f.c1 ≡ first_residual (c1_of j) sx sy (at kept.c1)
  pub c2 : f.c2 ≡ first_residual (c2_of j) sx sy (at kept.c2)

-- A stream can hold each of them.
pub record AreSmallFirsts (f : FirstResiduals) : Type 0 where
  pub luma : unsigned_abs f.luma ≤ MAX_MAGNITUDE
  pub c1 : unsigned_abs f.c1 ≤ MAX_MAGNITUDE
  pub c2 : unsigned_abs f.c2 ≤ MAX_MAGNITUDE

-- how many bits beyond one the code of a residual takes, quantised
abbrev pub bits_beyond_one : ℤ → ℕ → ℕ
bits_beyond_one residual q = length (signed_code_of (forward_of residual q)) - 1
