use Rattle.std.proofs.Common.{◌≡◌, ℕ, ◌<◌, ◌*◌, ◌+◌}
use Rattle.planes.specs.Valued.{valued}
use Rattle.lifting.proofs.in_place.unweave.Given as goal

abbrev pub invariant-loop-k : goal.invariant-loop-k
invariant-loop-k G l =
    let at = valued G.T.Number.value G.T.Number.none in
    record {
      evens : (i : ℕ) → i < l.k → at l.dst i ≡ at l.row (2 * i);
      odds : (i : ℕ) → i < l.k → at l.dst (l.w + i) ≡ at l.row (2 * i + 1);
    }
