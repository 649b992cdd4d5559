-- The laws of trials.
use Rattle.std.specs.Prelude.{◌≡◌, ℕ, ◌+◌, ◌-◌, ◌*◌, ◌^◌, ◌<◌, ◌≤◌, true, List, ◌++◌, ◌∷◌, [], length, take, max, ℤ, ◌-ℤ◌}
use Rattle.std.specs.List.{All}
use Rattle.planes.specs.Numbers.{Within}
use Rattle.planes.specs.Subbands.{BandExists}
use Rattle.dc_prediction.specs.Prediction.{prediction}
use Rattle.quant_factors.specs.Weights.{Weights, entry_of}
use Rattle.slice_geometry.specs.Shape.{IsDepth}
use Rattle.slice_geometry.specs.Slicing.{AreSlicesAllowed, slice_number}
use Rattle.slice_geometry.specs.Geometry.{band_size}
use Rattle.slice_encoder.specs.Trials.{CodedComponent, coefficient, slice_holding, restored_after, CodedPicture, luma_of, c1_of, c2_of, Lists, last_lists}
use Rattle.bounded_blocks.specs.Parts.{IsSmall}
use Rattle.slice_encoder.specs.Choice.{fits, IsLeastIndex}

-- What is restored in a slice depends on its index and those before it alone.
abbrev pub EarlierIndicesAlone : Type 0
EarlierIndicesAlone = (c : CodedComponent) (indices : List ℕ) (y x : ℕ) → AreSlicesAllowed c.slicing
    → y < (band_size c.slicing.depth 0 c.size).h → x < (band_size c.slicing.depth 0 c.size).w
    → restored_after c indices y x ≡ restored_after c (take (slice_holding c.slicing c.size y x + 1) indices) y x

-- a quantisation index is at most 127
abbrev pub IsIndex : ℕ → Type 0
IsIndex i = i ≤ 127

-- For all indices, where coefficients are within m, restored values are within 3 * m + 2 and residuals within 4 * m + 2.
abbrev pub RestoredStaysNear : Type 0
RestoredStaysNear =
    (c : CodedComponent) (m : ℕ) (indices : List ℕ) → All IsIndex indices → ((y x : ℕ) → Within m (coefficient c 0 0 y x))
    → (y x : ℕ) → Within (3 * m + 2) (restored_after c indices y x)
    × Within (4 * m + 2) (coefficient c 0 0 y x -ℤ prediction (restored_after c indices) y x)

-- the greatest magnitude of a coefficient of a component of d bits
abbrev pub most_coefficient : ℕ → ℕ → ℕ
most_coefficient depth d = 2 ^ (d - 1 + 3 * depth)

-- each entry of the matrix leaves index 127 so coarse that nothing is left of any residual
abbrev pub IsSteepOk : ℕ → ℕ → Weights → Type 0
IsSteepOk depth d matrix =
    (level orient : ℕ) → BandExists depth level orient → entry_of matrix level orient + 4 * (d + 2 + 3 * depth) ≤ 127

-- all coefficients are as large as those of a component of d bits at most
abbrev pub AreCoefficients : ℕ → CodedComponent → Type 0
AreCoefficients d c = (level orient y x : ℕ) → BandExists c.slicing.depth level orient
    → Within (most_coefficient c.slicing.depth d) (coefficient c level orient y x)

-- The coefficients are those of a picture of samples of these depths.
pub record IsPicture (j : CodedPicture) : Type 0 where
  pub luma_bits : IsDepth j.frame.luma_depth
  pub colour_bits : IsDepth j.frame.colour_depth
  pub luma : AreCoefficients j.frame.luma_depth (luma_of j)
  pub c1 : AreCoefficients j.frame.colour_depth (c1_of j)
  pub c2 : AreCoefficients j.frame.colour_depth (c2_of j)

-- The coarsest index fits each slice after whatever indices.
abbrev pub CoarsestFits : Type 0
CoarsestFits = (j : CodedPicture) (indices : List ℕ) (bytes sx sy : ℕ) → IsPicture j
    → IsSteepOk j.slicing.depth (max j.frame.luma_depth j.frame.colour_depth) j.matrix
    → All IsIndex indices → length indices ≡ slice_number j.slicing sx sy
    → fits bytes (last_lists j (indices ++ 127 ∷ []) sx sy) ≡ true

-- Each of the values has a magnitude that a stream can hold.
abbrev pub AreSmallValues : List ℤ → Type 0
AreSmallValues vs = All IsSmall vs

-- Where index 127 fits, there is a least index, and only one.
pub record HasOneLeast (bytes : ℕ) (at_index : ℕ → Lists) : Type 0 where
  pub some : fits bytes (at_index 127) ≡ true → (index : ℕ) × IsLeastIndex bytes at_index index
  pub no_other : (i j : ℕ) → IsLeastIndex bytes at_index i → IsLeastIndex bytes at_index j → i ≡ j
