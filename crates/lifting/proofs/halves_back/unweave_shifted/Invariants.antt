use Rattle.std.proofs.Common.{◌≡◌, ℕ, ◌<◌, ◌*◌, ◌+◌}
use Rattle.planes.specs.Valued.{valued}
use Rattle.lifting.specs.Steps.{doubled}
use Rattle.lifting.proofs.halves_back.unweave_shifted.Given as goal

abbrev pub invariant-loop-k : goal.invariant-loop-k
invariant-loop-k g l =
    let at = valued g.T.Number.value g.T.Number.none in
    record {
      evens : (i : ℕ) → i < l.k → at l.even i ≡ doubled l.wavelet (at l.row (2 * i));
      odds : (i : ℕ) → i < l.k → at l.odd i ≡ doubled l.wavelet (at l.row (2 * i + 1));
    }
