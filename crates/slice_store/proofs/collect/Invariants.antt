use Rattle.std.proofs.Common.{◌≡◌, ℕ, ◌<◌, ◌*◌, ◌+◌}
use Rattle.std.specs.Prelude.{slice_index_or}
use Rattle.slice_store.proofs.collect.Given as goal

abbrev pub invariant-loop-sx : goal.invariant-loop-sx
invariant-loop-sx g l = (j i : ℕ) → j < l.sx → i < l.count → slice_index_or l.out (j * l.count + i) g.T.Number.none ≡ slice_index_or l.numbers (l.at + j * l.size + i) g.T.Number.none
