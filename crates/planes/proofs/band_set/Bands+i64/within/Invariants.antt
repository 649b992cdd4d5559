use Rattle.std.proofs.Common.{ℕ, ◌<◌, get_or}
use Rattle.planes.specs.Subbands.{no_band}
use Rattle.planes.specs.Bounded.{IsPlaneWithin}
use Rattle.planes.proofs.band_set.Bands+i64.within.Given as goal

abbrev pub invariant-loop-plane : goal.invariant-loop-plane
invariant-loop-plane l = (k : ℕ) → k < l.plane-index → IsPlaneWithin l.bound (get_or l.self.bands k no_band)
