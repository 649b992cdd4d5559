use Rattle.std.proofs.Common.{ℕ, ◌<◌, ◌≤◌}
use Rattle.slice_encoder.specs.Limits.{quantiser_in}
use Rattle.slice_encoder.proofs.limits.finest_of.Given as goal

abbrev pub invariant-loop-k : goal.invariant-loop-k
invariant-loop-k l = record {
  least : (b : ℕ) → 1 ≤ b → b < l.k → l.finest ≤ quantiser_in l.key l.index b;
  most : l.finest ≤ 127;
}
