-- Bits that are put into a room one after another.
use Rattle.std.specs.Prelude.{◌≡◌, ℕ, ◌+◌, ◌*◌, ◌<◌, ◌≤◌, Bool, List, ◌++◌, length, take}
use Rattle.bit_codes.specs.Bits.{bits_of, digits_below}
use Rattle.slice_encoder.specs.declared.bit_queues.BitQueue.{BitQueue}

-- the bits that were put: those of the whole bytes, and those that wait, the last digits of a number
abbrev pub bits_so_far : List ℕ → BitQueue → List Bool
bits_so_far room q = bits_of (take q.whole room) ++ digits_below q.count q.number

-- So many bits may be put into a room of so many bytes.
pub record HasRoom (room : ℕ) (q : BitQueue) (bits : ℕ) : Type 0 where
  pub waits : q.count < 8
  pub inside : 8 * q.whole + q.count + bits ≤ 8 * room

-- A text was put into a room, behind all that was put before.
pub record IsSent (room : List ℕ) (q : BitQueue) (room' : List ℕ) (q' : BitQueue) (text : List Bool) : Type 0 where
  pub same_length : length room' ≡ length room
  pub waits : q'.count < 8
  pub place : 8 * q'.whole + q'.count ≡ 8 * q.whole + q.count + length text
  pub written : bits_so_far room' q' ≡ bits_so_far room q ++ text
