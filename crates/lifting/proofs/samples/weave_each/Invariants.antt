use Rattle.std.proofs.Common.{◌≡◌, ℕ, ◌-◌, ◌<◌, ◌≤◌, ◌*◌, pos, slice_index_or}
use Rattle.planes.specs.Valued.{valued}
use Rattle.lifting.specs.Places.{woven}
use Rattle.lifting.specs.Steps.{halved}
use Rattle.lifting.specs.Clipping.{clipped_up}
use Rattle.lifting.proofs.samples.weave_each.Given as goal

abbrev pub invariant-loop-k : goal.invariant-loop-k
invariant-loop-k G l =
    let at = valued G.T.Number.value G.T.Number.none in
    record {
      done : (i : ℕ) → i < 2 * l.k → pos (slice_index_or l.dst i 0) ≡ clipped_up (G.T.Number.value l.half) (halved l.wavelet (woven (at l.even) (at l.odd) i));
    }

abbrev pub invariant-loop-at : goal.invariant-loop-at
invariant-loop-at G l =
    let at = valued G.T.Number.value G.T.Number.none in
    record {
      inside : l.at ≤ l.count;
      done : (i : ℕ) → i < 2 * l.at → pos (slice_index_or l.dst i 0) ≡ clipped_up (G.T.Number.value l.half) (halved l.wavelet (woven (at l.even) (at l.odd) i));
    }

abbrev pub decreases-loop-at : goal.decreases-loop-at
decreases-loop-at G l = l.count - l.at
