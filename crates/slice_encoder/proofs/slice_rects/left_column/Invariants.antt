use Rattle.std.proofs.Common.{◌≡◌, ℕ, ◌/◌, ◌%◌, ◌<◌, length, get_or}
use Rattle.slice_geometry.specs.SliceOrder.{level_rect}
use Rattle.slice_encoder.specs.SliceRects.{no_rect}
use Rattle.slice_encoder.proofs.slice_rects.left_column.Given as goal

abbrev pub invariant-loop-n : goal.invariant-loop-n
invariant-loop-n l = record {
  count : length l.rects.items ≡ l.n;
  each : (k : ℕ) → k < l.n → get_or l.rects.items k no_rect ≡ level_rect l.layout l.size 0 (k % l.layout.slices_y) (k / l.layout.slices_y);
}
