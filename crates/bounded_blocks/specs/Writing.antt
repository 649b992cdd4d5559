-- Values as they are written into a block.
use Rattle.std.specs.Prelude.{◌≡◌, ℕ, ◌+◌, ◌-◌, ◌*◌, ◌^◌, ◌≤◌, min, Bool, true, List, ◌++◌, length, take, replicate, ℤ}
use Rattle.std.specs.List.{flat_map}
use Rattle.bit_codes.specs.Bits.{bits_of, bits_before, bits_behind}
use Rattle.bit_codes.specs.Codes.{signed_code_of}
use Rattle.bounded_blocks.specs.Blocks.{need_of}

-- the joined codes of values whose magnitudes are below 2 ^ 63, one signed code behind the other
abbrev pub codes_of : List ℤ → List Bool
codes_of vs = flat_map signed_code_of vs

-- how many bits a block has to have for them
abbrev pub need : List ℤ → ℕ
need vs = need_of (codes_of vs)

-- A block and a text agree as far as both reach.
abbrev pub AgreeSoFar : List Bool → List Bool → Type 0
AgreeSoFar block text = take (length text) block ≡ take (length block) text

-- a text in a block of n bits: cut where it is longer, with ones behind it where it is shorter
abbrev pub filled : ℕ → List Bool → List Bool
filled n text = take n text ++ replicate (n - length text) true

-- what is known of the codes of a list: how many bits they have, and how many they need
pub record NeedSeen : Type 0 where
  pub total : ℕ
  pub bits : ℕ

-- the length of their codes, and how many bits a block has to hold
abbrev pub count_of : List ℤ → NeedSeen
count_of vs = record { total = length (codes_of vs); bits = need vs }

-- a block from a place to an end lies in the bytes
pub record IsInside (bytes : List ℕ) (place end : ℕ) : Type 0 where
  pub room : length bytes ≤ 2 ^ 40
  pub order : place ≤ end
  pub inside : end ≤ 8 * length bytes

-- A text was written from a place on as far as a block reaches, which ends at `end`, and all else stays.
pub record Puts (end place : ℕ) (bytes : List ℕ) (place' : ℕ) (bytes' : List ℕ) (text : List Bool) : Type 0 where
  pub inside : IsInside bytes' place' end
  pub same_length : length bytes' ≡ length bytes
  pub moved : place' ≡ min (place + length text) end
  pub written : bits_before place' bytes' ≡ bits_before place bytes ++ take (end - place) text
  pub behind : bits_behind place' bytes' ≡ bits_behind place' bytes

-- Texts that were written one behind the other were written as one.
abbrev pub PutsCompose : Type 0
PutsCompose = (end place : ℕ) (bytes : List ℕ) (place1 : ℕ) (bytes1 : List ℕ) (place2 : ℕ) (bytes2 : List ℕ) (first second : List Bool)
    → place ≤ end → Puts end place bytes place1 bytes1 first → Puts end place1 bytes1 place2 bytes2 second
    → Puts end place bytes place2 bytes2 (first ++ second)

-- From a place to a block's end all is ones, and all else stays.
abbrev pub Finishes : ℕ → ℕ → List ℕ → List ℕ → Type 0
Finishes end place bytes bytes' =
    bits_of bytes' ≡ bits_before place bytes ++ (replicate (end - place) true ++ bits_behind end bytes)
