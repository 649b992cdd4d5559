use Rattle.std.proofs.Common.{◌≡◌, ℕ, ◌<◌, ◌+◌, ◌*◌, get_or}
use Rattle.slice_store.proofs.in_turn.take_in_turn.Given as goal

abbrev pub invariant-loop-k : goal.invariant-loop-k
invariant-loop-k g l = record {
  first : (j : ℕ) → j < l.k → get_or l.first j g.T.Number.none ≡ get_or l.values (2 * j) g.T.Number.none;
  second : (j : ℕ) → j < l.k → get_or l.second j g.T.Number.none ≡ get_or l.values (2 * j + 1) g.T.Number.none;
}
