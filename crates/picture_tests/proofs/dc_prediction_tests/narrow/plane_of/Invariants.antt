use Rattle.std.proofs.Common.{◌≡◌}
use Rattle.planes.specs.Raster.{height}
use Rattle.picture_tests.proofs.dc_prediction_tests.narrow.plane_of.Given as goal

abbrev pub invariant-loop-y : goal.invariant-loop-y
invariant-loop-y g l = record {
  width : l.plane.w ≡ 4;
  height : height l.plane ≡ 3;
}
