-- Four over a factor, as a number over a power of two.
use Rattle.std.specs.Prelude.{◌≡◌, ℕ, ◌+◌, ◌*◌, ◌/◌, ◌^◌, ◌<◌, ◌≤◌}
use Rattle.quant_factors.specs.Factors.{factor_of}
use Rattle.slice_encoder.specs.declared.scales.Scale.{Scale}

-- The number is four times two to the power of the shift, over the factor of an index, rounded up.
pub record IsScaleOf (s : Scale) (index : ℕ) : Type 0 where
  pub shift : s.shift ≡ 31 + index / 4
  pub least : 2 ^ (33 + index / 4) ≤ factor_of index * s.number
  pub most : factor_of index * s.number < 2 ^ (33 + index / 4) + factor_of index
