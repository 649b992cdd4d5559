-- The codes of values and of pairs of them, as they stand in tables.
use Rattle.std.specs.Prelude.{◌≡◌, ℕ, zero, suc, ◌/◌, ◌%◌, ◌^◌, ◌<◌, ◌≤◌, if◌then◌else◌, nat_lt, Bool, List, ◌++◌, length, get_or, map, ℤ, pos, ◌+ℤ◌, ◌-ℤ◌}
use Rattle.std.specs.Int.RustNames.{unsigned_abs}
use Rattle.bit_codes.specs.Bits.{digits_below}
use Rattle.bit_codes.specs.Codes.{signed_code_of}
use Rattle.slice_encoder.specs.declared.code_tables.TheConstants.{NO_PAIR}

-- An entry is a text of at most 24 digits: the number that has them as its last ones, times 256, and how many they are.
pub record IsEntry (entry : ℕ) (text : List Bool) : Type 0 where
  pub digits : digits_below (entry % 256) (entry / 256) ≡ text
  pub few : entry % 256 ≤ 24
  pub number : entry / 256 < 2 ^ (entry % 256)

-- the place of a value in a row of the table of pairs: those from -31 to 31 have the places from 1 to 63, all others 0
abbrev pub place_of : ℤ → ℕ
place_of v = if nat_lt (unsigned_abs v) 32 then unsigned_abs (v +ℤ pos 32) else 0

-- the places of values
abbrev pub places_of_values : List ℤ → List ℕ
places_of_values values = map place_of values

-- these are the places of values
abbrev pub ArePlaces : List ℤ → List ℕ → Type 0
ArePlaces values places = places ≡ places_of_values values

-- the entry of two places: that of the codes of their values, one behind the other, and none where a place is 0
abbrev pub IsPairEntry : ℕ → ℕ → ℕ → Type 0
IsPairEntry entry zero second = entry ≡ NO_PAIR
IsPairEntry entry (suc a) zero = entry ≡ NO_PAIR
IsPairEntry entry (suc a) (suc b) = IsEntry entry (signed_code_of (pos (suc a) -ℤ pos 32) ++ signed_code_of (pos (suc b) -ℤ pos 32))

-- the table of pairs, row by row of the first place
pub record ArePairs (entries : List ℕ) : Type 0 where
  pub count : length entries ≡ 4096
  pub each : (place : ℕ) → place < 4096 → IsPairEntry (get_or entries place 0) (place / 64) (place % 64)

-- the table of the codes of the values from -512 to 511
pub record AreSingles (entries : List ℕ) : Type 0 where
  pub count : length entries ≡ 1024
  pub each : (place : ℕ) → place < 1024 → IsEntry (get_or entries place 0) (signed_code_of (pos place -ℤ pos 512))
