use Rattle.std.proofs.Common.{◌≡◌, ℕ, ◌<◌, ◌+◌}
use Rattle.std.specs.Prelude.{slice_index_or}
use Rattle.slice_store.proofs.read_fixed.Given as goal

abbrev pub invariant-loop-i : goal.invariant-loop-i
invariant-loop-i g l = (j : ℕ) → j < l.i → slice_index_or l.block j g.T.Number.none ≡ slice_index_or l.from (l.at + j) g.T.Number.none
