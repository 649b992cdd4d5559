use Rattle.std.proofs.Common.{◌≡◌, ℕ, ◌<◌, ◌≤◌, length}
use Rattle.planes.specs.Valued.{valued}
use Rattle.slice_encoder.proofs.limits.fill.Given as goal

abbrev pub invariant-loop-p : goal.invariant-loop-p
invariant-loop-p G l = record {
  same_length : length l.limits ≡ length l.fn.limits;
  inside : (j : ℕ) → l.from ≤ j → j < l.p → valued G.T.Number.value G.T.Number.none l.limits j ≡ G.T.Number.value l.limit;
  before : (j : ℕ) → j < l.from → valued G.T.Number.value G.T.Number.none l.limits j ≡ valued G.T.Number.value G.T.Number.none l.fn.limits j;
}
