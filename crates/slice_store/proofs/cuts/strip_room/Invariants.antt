use Rattle.std.proofs.Common.{◌≡◌}
use Rattle.slice_store.specs.Room.{strip_room}
use Rattle.slice_store.proofs.cuts.strip_room.Given as goal

abbrev pub invariant-loop-level : goal.invariant-loop-level
invariant-loop-level l = l.sum ≡ strip_room l.layout l.size l.level
