use Rattle.std.proofs.Common.{◌≡◌, ℕ, ◌<◌, get_or, pos}
use Rattle.slice_store.proofs.widen_all.Given as goal

abbrev pub invariant-loop-k : goal.invariant-loop-k
invariant-loop-k g l = (i : ℕ) → i < l.k → g.T.Number.value (get_or l.to i g.T.Number.none) ≡ get_or l.from i (pos 0)
