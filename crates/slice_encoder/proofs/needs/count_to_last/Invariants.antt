use Rattle.std.proofs.Common.{◌≡◌, ◌-◌, length, take}
use Rattle.bounded_blocks.specs.Writing.{need}
use Rattle.slice_encoder.specs.Gathering.{reach}
use Rattle.slice_encoder.proofs.needs.count_to_last.Given as goal

abbrev pub invariant-loop-passed : goal.invariant-loop-passed
invariant-loop-passed l = record {
  need : need (take (length l.values - l.passed) l.values) ≡ need l.values;
  reach : reach (take (length l.values - l.passed) l.values) 0 ≡ reach l.values 0;
}
