use Rattle.std.proofs.Common.{◌≡◌, ◌+◌, ◌-◌, ◌/◌, ◌^◌, ◌<◌, ◌≤◌, ◌++◌, List}
use Rattle.std.specs.Prelude.{Bool}
use Rattle.bit_codes.specs.Bits.{digits_below}
use Rattle.bounded_blocks.specs.Reading.{magnitude_from}
use Rattle.bounded_blocks.proofs.code_table.code_in.Given as goal

abbrev pub invariant-loop-left : goal.invariant-loop-left
invariant-loop-left l = record {
  order : l.left ≤ l.bits;
  some : 1 ≤ l.number;
  small : l.number < 2 ^ (1 + (l.bits - l.left) / 2);
  same : (rest : List Bool) → magnitude_from 1 (digits_below l.bits l.word ++ rest) ≡ magnitude_from l.number (digits_below l.left l.word ++ rest);
}

abbrev pub decreases-loop-left : goal.decreases-loop-left
decreases-loop-left l = l.left
