use Rattle.std.proofs.Common.{◌≡◌, length, take}
use Rattle.bounded_blocks.specs.Writing.{codes_of}
use Rattle.slice_encoder.specs.BitQueues.{IsSent}
use Rattle.slice_encoder.proofs.block_texts.put_lowest.Given as goal

abbrev pub invariant-loop-k : goal.invariant-loop-k
invariant-loop-k l = record {
  same_length : length l.room ≡ length l.fn.room;
  sent : IsSent l.fn.room l.fn.queue l.room l.queue (codes_of (take l.k l.values));
}
