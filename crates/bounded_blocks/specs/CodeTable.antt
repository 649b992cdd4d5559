-- Codes at the front of twelve bits.
use Rattle.std.specs.Prelude.{◌≡◌, ◌≢◌, ◌-◌, ◌<◌, ◌≤◌, ◌++◌, ℕ, List, [], length, Bool, take, drop, slice_index_or, ℤ}
use Rattle.bit_codes.specs.Bits.{digits_below}
use Rattle.bounded_blocks.specs.Reading.{with_sign}
use Rattle.bounded_blocks.specs.Parts.{ReadsValues, AreWithin}
use Rattle.bounded_blocks.specs.declared.short_codes.ShortCode.{ShortCode}
use Rattle.bounded_blocks.specs.declared.code_table.Codes.{Codes}
use Rattle.bounded_blocks.specs.declared.code_table.Head.{Head}

-- a code with a length has this magnitude and the sign that follows in the last `left` of a number's last bits
abbrev pub IsSigned : ℕ → ℕ → ℕ → ℕ → ShortCode → Type 0
IsSigned magnitude word left bits code =
    code.length ≢ 0
    → (code.length ≤ bits)
    × ((rest : List Bool) → with_sign magnitude (digits_below left word ++ rest) ≡ (code.value, digits_below (bits - code.length) word ++ rest))

-- these codes are the first ones of these bits, whatever follows them, and their values are low
abbrev pub Begin : Codes → List Bool → Type 0
Begin codes bits =
    (codes.count ≤ 8) × (codes.length ≤ length bits) × AreWithin 127 codes.values
    × ((rest : List Bool) → ReadsValues codes.count (bits ++ rest) (take codes.count codes.values) (drop codes.length bits ++ rest))

-- values with a head
abbrev pub codes_of : List ℤ → Head → Codes
codes_of values head = record { values = values; count = head.count; length = head.length }

-- the entry of no code
abbrev pub no_head : Head
no_head = record { count = 0; length = 0 }

-- values and a head for each twelve bits
pub record IsTable (values : List (List ℤ)) (heads : List Head) : Type 0 where
  pub values_count : length values ≡ 4096
  pub heads_count : length heads ≡ 4096
  pub right : (k : ℕ) → k < 4096 → Begin (codes_of (slice_index_or values k []) (slice_index_or heads k no_head)) (digits_below 12 k)
