use Rattle.std.proofs.Common.{◌≡◌, ℕ, ◌<◌}
use Rattle.planes.specs.Raster.{height, row_of}
use Rattle.slice_store.proofs.gathered.narrow_plane.Given as goal

abbrev pub invariant-loop-y : goal.invariant-loop-y
invariant-loop-y l = record {
  same_width : l.from.w ≡ l.to.w;
  same_height : height l.from ≡ height l.to;
  rows : (k : ℕ) → k < l.y → row_of l.to k ≡ row_of l.from k;
}
