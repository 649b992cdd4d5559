use Rattle.std.proofs.Common.{◌≡◌, ℕ, ◌-◌, ◌<◌, ◌≤◌, length}
use Rattle.planes.specs.Valued.{valued}
use Rattle.lifting.specs.Steps.{step}
use Rattle.lifting.proofs.roll.step_row.Given as goal

abbrev pub invariant-loop-dst : goal.invariant-loop-dst
invariant-loop-dst g l =
    let at = valued g.T.Number.value g.T.Number.none in
    record {
      inside : l.at ≤ length l.dst;
      done : (j : ℕ) → j < l.at → at l.dst j ≡ step l.wavelet l.kind (at l.v j) (at l.a j) (at l.b j);
    }

abbrev pub decreases-loop-dst : goal.decreases-loop-dst
decreases-loop-dst g l = length l.dst - l.at

abbrev pub invariant-loop-i : goal.invariant-loop-i
invariant-loop-i g l =
    let at = valued g.T.Number.value g.T.Number.none in
    (j : ℕ) → j < l.i → at l.dst j ≡ step l.wavelet l.kind (at l.v j) (at l.a j) (at l.b j)
