use Rattle.std.proofs.Common.{◌≡◌}
use Rattle.slice_store.proofs.Sums.{in_front}
use Rattle.slice_store.proofs.cuts.Cuts.numbers_before.Given as goal

abbrev pub invariant-loop-level : goal.invariant-loop-level
invariant-loop-level l = l.sum ≡ in_front l.self.slicing l.self.size l.level l.sx l.sy
