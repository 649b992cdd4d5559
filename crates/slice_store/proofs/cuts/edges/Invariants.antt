use Rattle.std.proofs.Common.{◌≡◌, ◌+◌, ◌*◌, length, get_or}
use Rattle.slice_geometry.specs.Geometry.{slice_start}
use Rattle.slice_store.proofs.Tables.{AreFilled}
use Rattle.slice_store.proofs.cuts.edges.Given as goal

abbrev pub invariant-loop-k : goal.invariant-loop-k
invariant-loop-k l = record {
  size : length l.edges.items ≡ l.levels * (l.count + 1);
  filled : AreFilled l.edges.items (λ level i. slice_start (get_or l.lengths level 0) l.count i) (l.count + 1) l.k;
}
