use Rattle.std.proofs.Common.{◌≡◌, ℕ, ◌+◌, ◌/◌, ◌<◌, length, get_or}
use Rattle.planes.specs.Raster.{filled_with}
use Rattle.planes.specs.Subbands.{no_band, subband_length}
use Rattle.planes.proofs.late.late_planes.Given as goal

abbrev pub invariant-loop-k : goal.invariant-loop-k
invariant-loop-k g l = record {
  count : length l.planes.items ≡ l.k;
  zero : (k : ℕ) → k < l.k → get_or l.planes.items k no_band ≡ filled_with g.T.Number.none (subband_length l.depth ((k + 2) / 3) l.w) (subband_length l.depth ((k + 2) / 3) l.h);
}
