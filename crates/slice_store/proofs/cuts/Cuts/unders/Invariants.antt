use Rattle.std.proofs.Common.{◌≡◌, ◌+◌, ◌*◌, ◌/◌, ◌%◌, length}
use Rattle.slice_geometry.specs.SliceOrder.{places_before}
use Rattle.slice_store.proofs.Tables.{AreFilled}
use Rattle.slice_store.proofs.cuts.Cuts.unders.Given as goal

abbrev pub invariant-loop-k : goal.invariant-loop-k
invariant-loop-k l = record {
  size : length l.unders.items ≡ l.self.slicing.slices_y * (l.self.slicing.depth + 1) * l.self.slicing.slices_x;
  filled : AreFilled l.unders.items (λ row sx. places_before l.self.slicing l.self.size sx (row / (l.self.slicing.depth + 1)) (row % (l.self.slicing.depth + 1)) 1) l.self.slicing.slices_x l.k;
}
