use Rattle.std.proofs.Common.{ℕ, ◌<◌}
use Rattle.planes.specs.Raster.{at}
use Rattle.planes.specs.Bounded.{IsWithin}
use Rattle.planes.proofs.Plane+i64.within.Given as goal

abbrev pub invariant-loop-y : goal.invariant-loop-y
invariant-loop-y l = (y x : ℕ) → y < l.y → x < l.self.w → IsWithin l.bound (at l.self y x)
