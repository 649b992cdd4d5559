use Rattle.std.proofs.Common.{ℕ, ◌<◌}
use Rattle.planes.specs.Raster.{at}
use Rattle.dc_prediction.specs.Restoring.{IsNarrow}
use Rattle.picture_tests.proofs.dc_prediction_tests.narrow.is_narrow.Given as goal

abbrev pub invariant-loop-y : goal.invariant-loop-y
invariant-loop-y l = (y x : ℕ) → y < l.y → IsNarrow (at l.plane y x)
