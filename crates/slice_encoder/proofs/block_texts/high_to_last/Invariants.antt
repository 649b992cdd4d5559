use Rattle.std.proofs.Common.{◌≡◌, ◌-◌, List, ◌++◌, length, take, ℤ}
use Rattle.bounded_blocks.specs.Writing.{need}
use Rattle.slice_encoder.proofs.block_texts.high_to_last.Given as goal

abbrev pub invariant-loop-passed : goal.invariant-loop-passed
invariant-loop-passed l = (lowest : List ℤ) → need (lowest ++ take (length l.values - l.passed) l.values) ≡ need (lowest ++ l.values)
