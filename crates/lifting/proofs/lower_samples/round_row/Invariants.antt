use Rattle.std.proofs.Common.{◌≡◌, ℕ, ◌<◌, ◌≤◌}
use Rattle.planes.specs.Valued.{valued}
use Rattle.lifting.specs.LowerSamples.{rounded}
use Rattle.lifting.proofs.lower_samples.round_row.Given as goal

abbrev pub invariant-loop-i : goal.invariant-loop-i
invariant-loop-i G l = record {
  done : (k : ℕ) → k < l.i → valued G.T.Number.value G.T.Number.none l.row k ≡ rounded l.shift (valued G.T.Number.value G.T.Number.none l.fn.row k);
  rest : (k : ℕ) → l.i ≤ k → valued G.T.Number.value G.T.Number.none l.row k ≡ valued G.T.Number.value G.T.Number.none l.fn.row k;
}
