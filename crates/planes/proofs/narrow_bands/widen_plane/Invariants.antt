use Rattle.std.proofs.Common.{◌≡◌, ℕ, ◌<◌}
use Rattle.planes.specs.Raster.{height, row_of}
use Rattle.planes.proofs.narrow_bands.widen_plane.Given as goal

abbrev pub invariant-loop-y : goal.invariant-loop-y
invariant-loop-y l = record {
  same_width : l.narrow.w ≡ l.wide.w;
  same_height : height l.narrow ≡ height l.wide;
  rows : (k : ℕ) → k < l.y → row_of l.wide k ≡ row_of l.narrow k;
}
