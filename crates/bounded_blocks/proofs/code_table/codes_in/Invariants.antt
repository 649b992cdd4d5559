use Rattle.std.proofs.Common.{◌≡◌, ◌-◌, ◌≤◌, ◌++◌, List, length, take}
use Rattle.std.specs.Prelude.{Bool}
use Rattle.bit_codes.specs.Bits.{digits_below}
use Rattle.bounded_blocks.specs.Parts.{ReadsValues, AreWithin}
use Rattle.bounded_blocks.proofs.code_table.codes_in.Given as goal

abbrev pub invariant-loop-i : goal.invariant-loop-i
invariant-loop-i l = record {
  count : l.codes.count ≡ l.i;
  most : l.i ≤ 8;
  room : length l.codes.values ≡ 8;
  low : AreWithin 127 l.codes.values;
  few : l.codes.length ≤ 12;
  read : (rest : List Bool) → ReadsValues l.i (digits_below 12 l.word ++ rest) (take l.i l.codes.values) (digits_below (12 - l.codes.length) l.word ++ rest);
}
