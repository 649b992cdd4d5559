-- How many limits magnitudes pass, and what that tells of the codes of values.
use Rattle.std.specs.Prelude.{◌≡◌, ◌≢◌, ℕ, zero, suc, ◌+◌, ◌-◌, ◌*◌, ◌^◌, ◌<◌, ◌≤◌, List, length, if◌then◌else◌, int_lt, ℤ, pos, get_or}
use Rattle.bounded_blocks.specs.Writing.{codes_of}
use Rattle.slice_encoder.specs.declared.looks.Look.{Look}

-- 1 where a magnitude passes a limit
abbrev pub passes : ℤ → ℤ → ℕ
passes limit size = if int_lt limit size then 1 else 0

-- of the first n magnitudes, how many pass the limits of their places
abbrev pub above : (ℕ → ℤ) → (ℕ → ℤ) → ℕ → ℕ
above limits sizes zero = 0
above limits sizes (suc n) = above limits sizes n + passes (limits n) (sizes n)

-- the number of the last one of these, counted from 1, or 0
abbrev pub last_above : (ℕ → ℤ) → (ℕ → ℤ) → ℕ → ℕ
last_above limits sizes zero = 0
last_above limits sizes (suc n) = if int_lt (limits n) (sizes n) then suc n else last_above limits sizes n

-- how many of the first so many limits of their places they pass in all
abbrev pub all_above : (ℕ → ℕ → ℤ) → (ℕ → ℤ) → ℕ → ℕ → ℕ
all_above limits sizes n zero = 0
all_above limits sizes n (suc k) = all_above limits sizes n k + above (limits k) sizes n

-- What a look counts, where so many limits are asked of each place.
pub record Counts (l : Look) (limits : ℕ → ℕ → ℤ) (sizes : ℕ → ℤ) (n asked : ℕ) : Type 0 where
  pub some : l.some ≡ above (limits 0) sizes n
  pub all : l.some + l.more ≡ all_above limits sizes n asked
  pub last : l.last ≡ last_above (limits 0) sizes n

-- What a look tells of values: how long their codes are, and which of them is the last that isn't 0.
pub record IsLook (l : Look) (vs : List ℤ) : Type 0 where
  pub bits : length (codes_of vs) ≡ length vs + 3 * l.some + 2 * l.more
  pub most : l.last ≤ length vs
  pub zeros : (k : ℕ) → l.last ≤ k → k < length vs → get_or vs k (pos 0) ≡ pos 0
  pub some : 0 < l.last → get_or vs (l.last - 1) (pos 0) ≢ pos 0

-- They are the numbers of a list of 2^33 values at most, whose codes have at most 75 bits each.
pub record IsFew (l : Look) : Type 0 where
  pub codes : 3 * l.some + 2 * l.more ≤ 74 * 2 ^ 33
  pub last : l.last ≤ 2 ^ 33
