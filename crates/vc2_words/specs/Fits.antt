-- How large the numbers are that operands can hold.
use Rattle.std.specs.Prelude.{◌≡◌, ◌≤◌, ◌^◌, ℕ, List, Some, length, slice_index}
use Rattle.vc2_words.specs.declared.keys.TheConstants.{KEY_COUNT}
use Rattle.vc2_words.specs.declared.keys.Key.{Key}
use Rattle.vc2_words.specs.declared.keys.Key.TheVariants as of_key
use Rattle.vc2_words.specs.Forms.{greatest_number}
use Rattle.vc2_words.specs.Operands.{Table, value_of}

-- A bound of the numbers that a value of this key can hold: 32 bits, but for a schedule's delay, buffer and idle slots.
abbrev pub bound_of : Key → ℕ
bound_of of_key.Delay = 2 ^ 72
bound_of of_key.Buffer = 2 ^ 40
bound_of of_key.Idle = 2 ^ 20
bound_of _ = greatest_number

-- numbers within the bound of their key
abbrev pub IsFitValue : Key → List ℕ → Type 0
IsFitValue key ns = (i : ℕ) → slice_index ns i ≤ bound_of key

-- the numbers of each key are within its bound
pub record IsFit (given : Table) : Type 0 where
  pub fits : (key : Key) (ns : List ℕ) (i : ℕ) → value_of given key ≡ Some ns → slice_index ns i ≤ bound_of key
  pub many : length given ≡ KEY_COUNT
