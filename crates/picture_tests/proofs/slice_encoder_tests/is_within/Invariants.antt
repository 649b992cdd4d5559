use Rattle.std.proofs.Common.{ℕ, ◌<◌}
use Rattle.planes.specs.Numbers.{Within}
use Rattle.planes.specs.Raster.{at}
use Rattle.picture_tests.proofs.slice_encoder_tests.is_within.Given as goal

abbrev pub invariant-loop-y : goal.invariant-loop-y
invariant-loop-y l = (y x : ℕ) → y < l.y → Within l.most (at l.plane y x)
