-- A source and a sink in memory: what decides their calls, and what a call leaves.
use Rattle.std.specs.Prelude.{ℕ, ◌-◌, ◌^◌, List, ◌++◌, length, take, drop, min, slice_index, ◌==◌, if◌then◌else◌, Bool, ◌&&◌, ◌||◌, not, Result, Ok, Err}
use Rattle.std.specs.List.{list_any}
use Rattle.vc2_io.specs.Outside.{next_count}
use Rattle.vc2_io.specs.declared.outside.Failed.{Failed}

-- the bytes that are left, the greatest piece of each call, the calls that fail, the number of the next call, and how
-- many calls failed
pub record MemSourceSeen : Type 0 where
  pub left : List ℕ
  pub pieces : List ℕ
  pub failing : List ℕ
  pub calls : ℕ
  pub failures : ℕ

-- the call's number is among these
abbrev pub is_named : ℕ → List ℕ → Bool
is_named call calls = list_any (λ named. named == call) calls

-- the next call fails
abbrev pub fails_read : MemSourceSeen → Bool
fails_read source = is_named source.calls source.failing

-- how many bytes the next call gives to so much room: all that is left and fits, and at most the call's piece, where it
-- has one that isn't 0
abbrev pub read_len : MemSourceSeen → ℕ → ℕ
read_len source room =
    let most = min room (length source.left) in
    let piece = slice_index source.pieces source.calls in
    if piece == 0 then most else min most piece

-- what a call leaves
abbrev pub after_read : MemSourceSeen → Result ℕ Failed → MemSourceSeen
after_read source (Ok count) = record source { left = drop count source.left; calls = next_count source.calls }
after_read source (Err failed) = record source { calls = next_count source.calls; failures = next_count source.failures }

-- the bytes that were written, how many there is room for, the most that a call takes where that isn't 0, the calls that
-- fail, the number of the next call, and how many calls failed
pub record MemSinkSeen : Type 0 where
  pub bytes : List ℕ
  pub room : ℕ
  pub most : ℕ
  pub failing : List ℕ
  pub calls : ℕ
  pub failures : ℕ

-- the next call fails: it is named, or has bytes and finds no room; the last number names no call
abbrev pub fails_write : MemSinkSeen → ℕ → Bool
fails_write sink len =
    not (sink.calls == 2 ^ 64 - 1) && is_named sink.calls sink.failing || (sink.room - length sink.bytes == 0 && not (len == 0))

-- how many bytes of so many the next call takes
abbrev pub write_len : MemSinkSeen → ℕ → ℕ
write_len sink len =
    let fits = min len (sink.room - length sink.bytes) in
    if sink.most == 0 then fits else min fits sink.most

-- what a call leaves
abbrev pub after_write : MemSinkSeen → List ℕ → Result ℕ Failed → MemSinkSeen
after_write sink piece (Ok count) = record sink { bytes = sink.bytes ++ take count piece; calls = next_count sink.calls }
after_write sink piece (Err failed) = record sink { calls = next_count sink.calls; failures = next_count sink.failures }
