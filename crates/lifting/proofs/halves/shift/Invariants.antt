use Rattle.std.proofs.Common.{◌≡◌, ℕ, ◌-◌, ◌<◌, ◌≤◌, length, pos, ◌+ℤ◌}
use Rattle.std.specs.Int.{int_shr}
use Rattle.planes.specs.Valued.{valued}
use Rattle.lifting.proofs.halves.shift.Given as goal

abbrev pub invariant-loop-line : goal.invariant-loop-line
invariant-loop-line g l =
    let at = valued g.T.Number.value g.T.Number.none in
    record {
      inside : l.at ≤ length l.line;
      done : (j : ℕ) → j < l.at → at l.line j ≡ int_shr (at l.fn.line j +ℤ pos 1) 1;
      rest : (j : ℕ) → l.at ≤ j → at l.line j ≡ at l.fn.line j;
    }

abbrev pub decreases-loop-line : goal.decreases-loop-line
decreases-loop-line g l = length l.line - l.at

abbrev pub invariant-loop-i : goal.invariant-loop-i
invariant-loop-i g l =
    let at = valued g.T.Number.value g.T.Number.none in
    record {
      done : (j : ℕ) → j < l.i → at l.line j ≡ int_shr (at l.fn.line j +ℤ pos 1) 1;
      rest : (j : ℕ) → l.i ≤ j → at l.line j ≡ at l.fn.line j;
    }
