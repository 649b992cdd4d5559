use Rattle.std.proofs.Common.{◌≡◌}
use Rattle.slice_geometry.specs.SliceOrder.{places_to}
use Rattle.slice_store.proofs.cuts.Cuts.places_to.Given as goal

abbrev pub invariant-loop-l : goal.invariant-loop-l
invariant-loop-l l = l.sum ≡ places_to l.self.slicing l.self.size l.sx l.sy l.l
