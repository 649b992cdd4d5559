use Rattle.std.proofs.Common.{◌≡◌, ◌*◌, length, take}
use Rattle.bounded_blocks.specs.Writing.{codes_of}
use Rattle.slice_encoder.specs.BitQueues.{IsSent}
use Rattle.slice_encoder.proofs.block_texts.put_fours.Given as goal

abbrev pub invariant-loop-four : goal.invariant-loop-four
invariant-loop-four l = record {
  same_length : length l.room ≡ length l.fn.room;
  sent : IsSent l.fn.room l.fn.queue l.room l.queue (codes_of (take (4 * l.four) l.values));
}
