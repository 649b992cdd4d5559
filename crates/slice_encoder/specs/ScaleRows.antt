-- Two products of 16 bits in place of a division by a factor.
use Rattle.std.specs.Prelude.{◌≡◌, ℕ, ◌-◌, ◌*◌, ◌/◌, ◌^◌, ◌<◌, ◌≤◌, List, length, slice_index}
use Rattle.quant_factors.specs.Factors.{factor_of}
use Rattle.slice_encoder.specs.declared.limits.RowKey.{RowKey}
use Rattle.slice_encoder.specs.Limits.{quantiser_in, IsCut}

-- the upper half of x times a number, and that of this times another
abbrev pub short_quotient : ℕ → ℕ → ℕ → ℕ
short_quotient number shift x = x * number / 2 ^ 16 * shift / 2 ^ 16

-- They divide numbers of 15 bits by a factor: for 2^d < factor ≤ 2^(d+1) they are 2^(16+d) over the factor, rounded up, and
-- 2^(16-d), and both are 0 where the factor passes 2^15.
abbrev pub Divides : ℕ → ℕ → ℕ → Type 0
Divides number shift factor = (x : ℕ) → x < 2 ^ 15 → short_quotient number shift x ≡ x / factor

-- each place of the first so many bands has the numbers of its band's quantiser
abbrev pub AreScales : RowKey → ℕ → List ℕ → List ℕ → ℕ → Type 0
AreScales key index numbers shifts last = (b p : ℕ) → 1 ≤ b → b ≤ last → slice_index key.ends (b - 1) ≤ p → p < slice_index key.ends b
    → Divides (slice_index numbers p) (slice_index shifts p) (factor_of (quantiser_in key index b))

-- so do all places of a row
pub record IsScaleRow (key : RowKey) (index room : ℕ) (numbers shifts : List ℕ) : Type 0 where
  pub count : length numbers ≡ room
  pub same : length shifts ≡ room
  pub few : room ≤ 1024
  pub cut : IsCut key
  pub scales : AreScales key index numbers shifts key.front
