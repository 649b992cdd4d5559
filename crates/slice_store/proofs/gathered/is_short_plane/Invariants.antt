use Rattle.std.proofs.Common.{◌<◌, ℕ}
use Rattle.planes.specs.Bounded.{IsWithin}
use Rattle.planes.specs.Raster.{at}
use Rattle.slice_store.specs.declared.short_bands.TheConstants.{MAX_SHORT}
use Rattle.slice_store.proofs.gathered.is_short_plane.Given as goal

abbrev pub invariant-loop-y : goal.invariant-loop-y
invariant-loop-y l = (k x : ℕ) → k < l.y → x < l.plane.w → IsWithin MAX_SHORT (at l.plane k x)
