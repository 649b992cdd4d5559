use Rattle.std.proofs.Common.{◌≡◌, ◌+◌, ◌*◌, length}
use Rattle.slice_store.specs.Places.{numbers_before}
use Rattle.slice_store.proofs.Tables.{AreFilled}
use Rattle.slice_store.proofs.cuts.Cuts.befores.Given as goal

abbrev pub invariant-loop-k : goal.invariant-loop-k
invariant-loop-k l = record {
  size : length l.befores.items ≡ l.self.slicing.slices_y * (l.self.slicing.slices_x + 1);
  filled : AreFilled l.befores.items (λ sy sx. numbers_before l.self.slicing l.self.size sx sy) (l.self.slicing.slices_x + 1) l.k;
}
