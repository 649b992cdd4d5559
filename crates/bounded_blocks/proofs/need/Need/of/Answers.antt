use Rattle.std.proofs.Common.{ap, arith}
use Rattle.bounded_blocks.specs.Writing.{NeedSeen}
use Rattle.bounded_blocks.proofs.CodeLengths.{room_left}
use Rattle.bounded_blocks.proofs.need.Need.of.Goals as goal

pub add-requires-clause-room : goal.add-requires-clause-room
add-requires-clause-room c = room_left c.args.values.now c.loop-value.value-index c.loop-value.need.total c.requires.small (omega arith) (ap (λ (n : NeedSeen). n.total) c.loop-value.invariant)
