use Rattle.std.proofs.Common.{◌≡◌, ℕ, ◌<◌, ◌≤◌, ◌+◌}
use Rattle.std.specs.Prelude.{slice_index_or}
use Rattle.slice_store.proofs.copy_each.Given as goal

abbrev pub invariant-loop-i : goal.invariant-loop-i
invariant-loop-i g l = record {
  done : (j : ℕ) → j < l.i → slice_index_or l.out (l.to + j) g.T.Number.none ≡ slice_index_or l.from (l.at + j) g.T.Number.none;
  behind : (j : ℕ) → l.to + l.i ≤ j → slice_index_or l.out j g.T.Number.none ≡ slice_index_or l.fn.out j g.T.Number.none;
  before : (j : ℕ) → j < l.to → slice_index_or l.out j g.T.Number.none ≡ slice_index_or l.fn.out j g.T.Number.none;
}
