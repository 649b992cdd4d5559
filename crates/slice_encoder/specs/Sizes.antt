-- The magnitudes of a slice's coefficients, band by band.
use Rattle.std.specs.Prelude.{◌≡◌, ℕ, ◌-◌, ◌*◌, ◌/◌, ◌%◌, ◌^◌, ◌≤◌, ◌==◌, List, length, take, drop, map, slice_index, slice_index_or, unsigned_abs, true, false, Bool, if◌then◌else◌, ℤ, pos}
use Rattle.std.specs.List.{flat_map, range_with_len}
use Rattle.slice_encoder.specs.declared.limits.RowKey.{RowKey}
use Rattle.slice_encoder.specs.Gathering.{quantised}
use Rattle.slice_encoder.specs.Limits.{AreSizesTo, IsCut}

-- what is known of them: the depth of the transform, where each band's end, each band's entry in the matrix, and the magnitudes
pub record SizesSeen : Type 0 where
  pub depth : ℕ
  pub ends : List ℕ
  pub entries : List ℕ
  pub values : List ℤ

-- those of band number k, from 1 on
abbrev pub sizes_of : SizesSeen → ℕ → List ℤ
sizes_of s k = take (slice_index s.ends k - slice_index s.ends (k - 1)) (drop (slice_index s.ends (k - 1)) s.values)

-- the same quantised at an index of the slice
abbrev pub quantised_sizes : SizesSeen → ℕ → ℕ → List ℤ
quantised_sizes s index k = quantised (index - slice_index s.entries k) (sizes_of s k)

-- and those of all bands
abbrev pub size_values : SizesSeen → ℕ → List ℤ
size_values s index = flat_map (quantised_sizes s index) (range_with_len 1 (3 * s.depth))

-- Quantised at an index they are as great as the values that a slice has there.
abbrev pub AreSizes : SizesSeen → (ℕ → List ℤ) → Type 0
AreSizes s values = (index : ℕ) → index ≤ 127 → map unsigned_abs (size_values s index) ≡ map unsigned_abs (values index)

-- the magnitudes in 16 bits, or in 32
abbrev pub shown : Bool → List ℤ → List ℤ → List ℤ
shown true short long = short
shown false short long = long

-- the values of two lists in turn, place by place
abbrev pub turn_at : List ℤ → List ℤ → ℕ → ℤ
turn_at first second p = if p % 2 == 0 then slice_index_or first (p / 2) (pos 0) else slice_index_or second (p / 2) (pos 0)

-- The bands stand one behind the other, and those at the front are in the key.
pub record HoldsSizes (depth : ℕ) (ends : List ℕ) (key : RowKey) (top : ℕ) (is_short : Bool) (short long : List ℤ) : Type 0 where
  pub shallow : depth ≤ 4
  pub start : slice_index ends 0 ≡ 0
  pub rise : (k : ℕ) → 1 ≤ k → k ≤ 3 * depth → slice_index ends (k - 1) ≤ slice_index ends k
  pub whole : (k : ℕ) → k ≤ 3 * depth → slice_index ends k ≤ slice_index ends (3 * depth)
  pub inside : slice_index ends (3 * depth) ≤ length short
  pub same : length long ≡ length short
  pub few : length short ≤ 2 ^ 33
  pub cut : IsCut key
  pub front : key.front ≤ 3 * depth
  pub ends_same : (k : ℕ) → k ≤ key.front → slice_index key.ends k ≡ slice_index ends k
  pub top_is : AreSizesTo top (take (slice_index ends (3 * depth)) (shown is_short short long))
  pub small : top ≤ 2 ^ 27
  pub short_small : is_short ≡ true → top ≤ 16383
  pub short_all : AreSizesTo 32767 short
  pub long_all : AreSizesTo 2147483647 long
