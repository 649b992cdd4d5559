use Rattle.std.proofs.Common.{◌≡◌, ◌-◌, ◌≤◌, length, replicate, true}
use Rattle.slice_encoder.specs.BitQueues.{IsSent}
use Rattle.slice_encoder.proofs.block_texts.put_ones.Given as goal

abbrev pub invariant-loop-left : goal.invariant-loop-left
invariant-loop-left l = record {
  same_length : length l.room ≡ length l.fn.room;
  most : l.left ≤ l.count;
  sent : IsSent l.fn.room l.fn.queue l.room l.queue (replicate (l.count - l.left) true);
}

abbrev pub decreases-loop-left : goal.decreases-loop-left
decreases-loop-left l = l.left
