-- Bits at hand, as a word of 64 bits.
use Rattle.std.specs.Prelude.{◌≡◌, ℕ, ◌+◌, ◌-◌, ◌<◌, ◌≤◌, List, length, take, true, slice_index_or, ℤ}
use Rattle.std.specs.Int.{from_be_bytes, w64}
use Rattle.bit_codes.specs.Bits.{bit}
use Rattle.bounded_blocks.specs.Parts.{block_of, ReadsValues, AreWithin}
use Rattle.bounded_blocks.specs.declared.window.Window.{Window}

-- eight bytes from an index on, those past the end 255
pub record HasBytes (bytes : List ℕ) (index : ℕ) (eight : List ℕ) : Type 0 where
  pub count : length eight ≡ 8
  pub same : (j : ℕ) → j < 8 → slice_index_or eight j 255 ≡ slice_index_or bytes (index + j) 255

-- their number, the first byte the highest
pub record IsWord (bytes : List ℕ) (index word : ℕ) : Type 0 where
  pub eight : List ℕ
  pub has : HasBytes bytes index eight
  pub is : word ≡ from_be_bytes w64 eight

-- The bits that a window shows are those of the block from its place on and, past the block's end, ones. Its place is no
-- further past the end than it shows less.
pub record IsWindowAt (bytes : List ℕ) (end : ℕ) (w : Window) : Type 0 where
  pub most : w.shown ≤ 57
  pub near : w.place + w.shown ≤ end + 57
  pub shows : (i : ℕ) → i < w.shown → bit w.word (63 - i) ≡ slice_index_or (block_of bytes w.place end) i true

-- The front of a list holds the first `done` values of a block, whose magnitudes are at most `most`, and a window stands
-- behind them.
pub record HoldsRead (most : ℕ) (bytes : List ℕ) (start end done : ℕ) (out : List ℤ) (w : Window)
    : Type 0 where
  pub at : IsWindowAt bytes end w
  pub read : ReadsValues done (block_of bytes start end) (take done out) (block_of bytes w.place end)
  pub within : AreWithin most (take done out)
