use Rattle.std.proofs.Common.{◌≡◌, length, take}
use Rattle.bounded_blocks.specs.Writing.{codes_of}
use Rattle.slice_encoder.proofs.needs.total_length.Given as goal

abbrev pub invariant-loop-value : goal.invariant-loop-value
invariant-loop-value l = record {
  bits : l.bits ≡ length (codes_of (take l.value-index l.values));
}
