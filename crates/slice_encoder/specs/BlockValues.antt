-- The values of a block, as they are handed over to be written.
use Rattle.std.specs.Prelude.{◌^◌, ◌<◌, List, ◌++◌, ℤ}
use Rattle.std.specs.Int.RustNames.{unsigned_abs}
use Rattle.std.specs.List.{All}
use Rattle.bounded_blocks.specs.Parts.{IsSmall}
use Rattle.slice_encoder.specs.declared.block_texts.BlockValues.{BlockValues}
use Rattle.slice_encoder.specs.CodeTables.{ArePlaces}

-- the values in their order
abbrev pub block_list : BlockValues → List ℤ
block_list b = b.lowest.now ++ b.high.now

-- a value that stands in 32 bits, as its negative does
abbrev pub IsIn32 : ℤ → Type 0
IsIn32 v = unsigned_abs v < 2 ^ 31

-- what is known of the values, and where they stand in the table of pairs
pub record AreBlockValues (b : BlockValues) : Type 0 where
  pub lowest : All IsSmall b.lowest.now
  pub high : All IsIn32 b.high.now
  pub places : ArePlaces b.high.now b.places.now
