-- DC prediction: what a place of the lowest subband is predicted to hold, and the band that its residuals make
-- (SMPTE ST 2042-1:2017, 13.4, dc_prediction).
use Rattle.std.specs.Prelude.{◌≡◌, ℕ, zero, suc, ◌+◌, ◌-◌, ◌*◌, ◌<◌, ℤ, pos, ◌+ℤ◌}
use Rattle.bit_codes.specs.declared.TheConstants.{MAX_MAGNITUDE}
use Rattle.std.specs.Int.{int_div_euclid}
use Rattle.planes.specs.Raster.{Grid}

-- the mean of three numbers, rounded
abbrev pub mean : ℤ → ℤ → ℤ → ℤ
mean a b c = int_div_euclid (a +ℤ b +ℤ c +ℤ pos 1) (pos 3)

-- The prediction of the place in row y and column x: the mean of the values left, above-left and above; in the first row
-- the value left, in the first column the value above, in the corner 0.
unfoldable pub prediction : Grid → ℕ → ℕ → ℤ
prediction g zero zero = pos 0
prediction g zero (suc x) = g 0 x
prediction g (suc y) zero = g y 0
prediction g (suc y) (suc x) = mean (g (suc y) x) (g y x) (g y (suc x))

-- Each place holds its residual plus the prediction from the values that are restored.
abbrev pub IsRestored : Grid → Grid → Type 0
IsRestored residuals g = (y x : ℕ) → g y x ≡ residuals y x +ℤ prediction g y x

-- ---- the one band that is restored, by computing

-- the first row, and a row below another, from left to right
abbrev pub first_row : (ℕ → ℤ) → ℕ → ℤ
first_row r zero = r 0 +ℤ pos 0
first_row r (suc x) = r (suc x) +ℤ first_row r x

-- a row of values from its residuals and the row above (13.4)
abbrev pub row_below : (ℕ → ℤ) → (ℕ → ℤ) → ℕ → ℤ
row_below above r zero = r 0 +ℤ above 0
row_below above r (suc x) = r (suc x) +ℤ mean (row_below above r x) (above x) (above (suc x))

unfoldable pub restored : Grid → Grid
restored residuals zero = first_row (residuals 0)
restored residuals (suc y) = row_below (restored residuals y) (residuals (suc y))

-- ---- the places that are looked at

-- Each place that the prediction of row y and column x looks at has P.
pub record AllLookedAt (P : ℕ → ℕ → Type 0) (y x : ℕ) : Type 0 where
  pub left : 0 < x → P y (x - 1)
  pub above : 0 < y → P (y - 1) x
  pub corner : 0 < y → 0 < x → P (y - 1) (x - 1)

-- The greatest magnitude in row y and column x: each residual has at most 2 ^ 36, and a mean is no greater than what it is of.
abbrev pub reach : ℕ → ℕ → ℕ
reach y x = (y + x + 1) * MAX_MAGNITUDE
