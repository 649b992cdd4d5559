-- A band that is made place by place, each of what is predicted for it. It is the writer's side of DC prediction (SMPTE
-- ST 2042-1:2017, 13.4).
use Rattle.std.specs.Prelude.{◌≡◌, ℕ, zero, suc, ℤ, pos, ◌+ℤ◌, ◌-ℤ◌}
use Rattle.planes.specs.Raster.{Grid}
use Rattle.dc_prediction.specs.Prediction.{mean, prediction}
use Rattle.quant_factors.specs.Factors.{inverse_of, forward_of}

-- what a place holds, by its row, its column and its prediction
abbrev pub PlaceRule : Type 0
PlaceRule = ℕ → ℕ → ℤ → ℤ

-- Each place of a band holds what the rule says by the prediction of the place.
abbrev pub IsMade : PlaceRule → Grid → Type 0
IsMade f g = (y x : ℕ) → g y x ≡ f y x (prediction g y x)

-- ---- the one band that is made, by computing

-- the first row, by its rule: each place is predicted from the one left of it
abbrev pub made_first : (ℕ → ℤ → ℤ) → ℕ → ℤ
made_first f zero = f 0 (pos 0)
made_first f (suc x) = f (suc x) (made_first f x)

-- a row below another, by its rule and the row above it
abbrev pub made_below : (ℕ → ℤ) → (ℕ → ℤ → ℤ) → ℕ → ℤ
made_below above f zero = f 0 (above 0)
made_below above f (suc x) = f (suc x) (mean (made_below above f x) (above x) (above (suc x)))

-- the band that a rule makes
unfoldable pub made : PlaceRule → Grid
made f zero = made_first (f 0)
made f (suc y) = made_below (made f y) (f (suc y))

-- ---- a coefficient in the lowest subband

-- its residual, quantised
abbrev pub residual_of : ℤ → ℕ → ℤ → ℤ
residual_of coefficient q prediction = forward_of (coefficient -ℤ prediction) q

-- and what a reader restores of that: the prediction and the dequantised residual
abbrev pub restored_value : ℤ → ℕ → ℤ → ℤ
restored_value coefficient q prediction = prediction +ℤ inverse_of (residual_of coefficient q prediction) q
