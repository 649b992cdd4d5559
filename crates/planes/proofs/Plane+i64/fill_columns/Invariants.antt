use Rattle.std.proofs.Common.{◌≡◌, ℕ, ◌-◌, ◌<◌, ◌≤◌, min}
use Rattle.planes.specs.Raster.{height, row_of, at}
use Rattle.planes.proofs.Plane+i64.fill_columns.Given as goal

abbrev pub invariant-loop-y : goal.invariant-loop-y
invariant-loop-y l = record {
  same_width : l.self.w ≡ l.fn.self.w;
  same_height : height l.self ≡ height l.fn.self;
  filled : (y x : ℕ) → y < l.y → x < l.fn.self.w → at l.self y x ≡ at l.fn.self y (min x (l.w - 1));
  rest : (y : ℕ) → l.y ≤ y → row_of l.self y ≡ row_of l.fn.self y;
}
