-- The limits of an index, place by place.
use Rattle.std.specs.Prelude.{◌≡◌, ℕ, ◌+◌, ◌-◌, ◌*◌, ◌/◌, ◌%◌, ◌^◌, ◌<◌, ◌≤◌, List, [], length, take, drop, min, slice_index, slice_index_or, get_or, ℤ, pos}
use Rattle.std.specs.List.{flat_map, range_with_len}
use Rattle.planes.specs.Valued.{valued}
use Rattle.quant_factors.specs.Factors.{factor_of}
use Rattle.slice_encoder.specs.declared.limits.RowKey.{RowKey}
use Rattle.slice_encoder.specs.Gathering.{quantised}

-- the greatest magnitude whose quantised value, and one more, is below 2^k
abbrev pub limit_at : ℕ → ℕ → ℕ
limit_at k q = ((2 ^ k - 1) * factor_of q - 1) / 4

-- so many places, and those that fill up the last sixteen
abbrev pub padded_count : ℕ → ℕ
padded_count n = (n + 15) / 16 * 16

-- the quantiser of band number k at an index of the slice
abbrev pub quantiser_in : RowKey → ℕ → ℕ → ℕ
quantiser_in key index k = index - slice_index key.entries k

-- how many places a row has limits for
abbrev pub places_in : RowKey → ℕ
places_in key = slice_index key.ends key.front

-- The bands stand one behind the other.
pub record IsCut (key : RowKey) : Type 0 where
  pub bands : key.front ≤ 12
  pub start : slice_index key.ends 0 ≡ 0
  pub rise : (k : ℕ) → 1 ≤ k → k ≤ key.front → slice_index key.ends (k - 1) ≤ slice_index key.ends k

-- the values of band number k, quantised, of coefficients with these magnitudes
abbrev pub key_piece : RowKey → ℕ → List ℤ → ℕ → List ℤ
key_piece key index sizes k =
    quantised (quantiser_in key index k)
    (take (slice_index key.ends k - slice_index key.ends (k - 1)) (drop (slice_index key.ends (k - 1)) sizes))

-- the values of all bands
abbrev pub key_values : RowKey → ℕ → List ℤ → List ℤ
key_values key index sizes = flat_map (key_piece key index sizes) (range_with_len 1 key.front)

-- magnitudes up to a greatest one
abbrev pub AreSizesTo : ℕ → List ℤ → Type 0
AreSizesTo top sizes = (p : ℕ) → p < length sizes → (m : ℕ) × (get_or sizes p (pos 0) ≡ pos m) × (m ≤ top)

-- The places of limit number k: each has that of its band, and those that fill up the last sixteen have the greatest number.
pub record IsLimitPart (limits : ℕ → ℤ) (greatest : ℕ) (key : RowKey) (index k : ℕ) : Type 0 where
  pub bands : (b p : ℕ) → 1 ≤ b → b ≤ key.front → slice_index key.ends (b - 1) ≤ p → p < slice_index key.ends b
      → limits p ≡ pos (min (limit_at (k + 1) (quantiser_in key index b)) greatest)
  pub rest : (p : ℕ) → places_in key ≤ p → p < padded_count (places_in key) → limits p ≡ pos greatest

-- no band's quantiser is less
abbrev pub IsFinest : RowKey → ℕ → ℕ → Type 0
IsFinest key index finest = (b : ℕ) → 1 ≤ b → b ≤ key.front → finest ≤ quantiser_in key index b

-- the limits of a place in a row, by the limit's number
abbrev pub limits_in : {X : Type 0} → (X → ℤ) → X → List X → ℕ → ℕ → ℕ → ℤ
limits_in value none limits room k p = valued value none limits (k * room + p)

-- a row as contracts see it: what it was made for, and how many places it has room for
pub record LimitRowSeen : Type 0 where
  pub key : RowKey
  pub index : ℕ
  pub room : ℕ

-- a row without room
abbrev pub no_row : LimitRowSeen
no_row = record { key = record { front = 0; ends = []; entries = [] }; index = 0; room = 0 }

-- each limit of a row's places is that of its key
pub record IsLimitRow {X : Type 0} (value : X → ℤ) (none : X) (numbers greatest : ℕ) (key : RowKey) (index finest room : ℕ) (limits : List X) : Type 0 where
  pub count : length limits ≡ numbers * room
  pub few : room ≤ 1024
  pub cut : IsCut key
  pub index_few : index ≤ 127
  pub low : finest ≤ 127
  pub least : IsFinest key index finest
  pub parts : (k : ℕ) → k < numbers → IsLimitPart (limits_in value none limits room k) greatest key index k

-- there are so many rows, and each has room for so many places
pub record HaveRoom (many room : ℕ) (rows : List LimitRowSeen) : Type 0 where
  pub some : 16 ≤ room
  pub most : room ≤ 1024
  pub whole : room % 16 ≡ 0
  pub count : length rows ≡ many
  pub each : (k : ℕ) → k < length rows → (slice_index_or rows k no_row).room ≡ room
