use Rattle.std.proofs.Common.{◌≡◌, ℕ, ◌<◌}
use Rattle.planes.specs.Raster.{height, row_of}
use Rattle.planes.proofs.narrow_bands.narrow_plane.Given as goal

abbrev pub invariant-loop-y : goal.invariant-loop-y
invariant-loop-y l = record {
  same_width : l.wide.w ≡ l.narrow.w;
  same_height : height l.wide ≡ height l.narrow;
  rows : (k : ℕ) → k < l.y → row_of l.narrow k ≡ row_of l.wide k;
}
