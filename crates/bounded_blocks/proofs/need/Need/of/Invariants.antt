use Rattle.std.proofs.Common.{◌≡◌, take}
use Rattle.bounded_blocks.specs.Writing.{count_of}
use Rattle.bounded_blocks.proofs.need.Need.of.Given as goal

abbrev pub invariant-loop-value : goal.invariant-loop-value
invariant-loop-value l = l.need ≡ count_of (take l.value-index l.values)
