use Rattle.std.proofs.Common.{ℕ, ◌<◌, ◌^◌}
use Rattle.planes.specs.Numbers.{Within}
use Rattle.planes.specs.Raster.{at}
use Rattle.picture_tests.proofs.lifting_tests.wavelets.is_of_samples.Given as goal

abbrev pub invariant-loop-y : goal.invariant-loop-y
invariant-loop-y l = (y x : ℕ) → y < l.y → Within (2 ^ 15) (at l.plane y x)
