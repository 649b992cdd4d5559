use Rattle.std.proofs.Common.{◌≡◌, ◌-◌, ◌*◌, ◌^◌, ◌<◌, ◌≤◌, ◌++◌}
use Rattle.bit_codes.specs.Bits.{digits_below}
use Rattle.bit_codes.specs.Codes.{interleaved}
use Rattle.slice_encoder.proofs.code_texts.spread.Given as goal

abbrev pub invariant-loop-left : goal.invariant-loop-left
invariant-loop-left l = record {
  least : l.to ≤ l.left;
  most : l.left ≤ l.from;
  small : l.text < 2 ^ (2 * (l.from - l.left));
  so_far : digits_below (2 * (l.from - l.left)) l.text ++ interleaved (digits_below l.left l.number) ≡ interleaved (digits_below l.from l.number);
}

abbrev pub decreases-loop-left : goal.decreases-loop-left
decreases-loop-left l = l.left
