use Rattle.std.proofs.Common.{◌≡◌}
use Rattle.planes.specs.Raster.{height}
use Rattle.picture_tests.proofs.lifting_tests.short.fill.Given as goal

abbrev pub invariant-loop-y : goal.invariant-loop-y
invariant-loop-y l = record {
  same_width : l.plane.w ≡ l.fn.plane.w;
  same_height : height l.plane ≡ height l.fn.plane;
}
