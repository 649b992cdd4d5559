use Rattle.std.proofs.Common.{◌≡◌, ℕ, ◌<◌, get_or, true}
use Rattle.slice_encoder.proofs.limits.are_entries.Given as goal

abbrev pub invariant-loop-k : goal.invariant-loop-k
invariant-loop-k l = l.same ≡ true → (j : ℕ) → j < l.k → get_or l.first j 0 ≡ get_or l.second j 0
