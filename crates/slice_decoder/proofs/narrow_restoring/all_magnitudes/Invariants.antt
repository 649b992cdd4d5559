use Rattle.std.proofs.Common.{ℕ, ◌<◌, ◌≤◌, get_or, pos, unsigned_abs}
use Rattle.slice_decoder.proofs.narrow_restoring.all_magnitudes.Given as goal

abbrev pub invariant-loop-k : goal.invariant-loop-k
invariant-loop-k l = record {
  all : (j : ℕ) → j < l.k → unsigned_abs (get_or l.values j (pos 0)) ≤ l.all;
}
