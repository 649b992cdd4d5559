use Rattle.std.proofs.Common.{◌≡◌, ℕ, ◌-◌, ◌<◌, ◌≤◌, min}
use Rattle.planes.specs.Raster.{height, row_of}
use Rattle.planes.proofs.Plane+i64.fill_rows.Given as goal

abbrev pub invariant-loop-y : goal.invariant-loop-y
invariant-loop-y l = record {
  begun : l.h ≤ l.y;
  same_width : l.self.w ≡ l.fn.self.w;
  same_height : height l.self ≡ height l.fn.self;
  filled : (y : ℕ) → y < l.y → row_of l.self y ≡ row_of l.fn.self (min y (l.h - 1));
}
