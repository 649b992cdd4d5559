use Rattle.std.proofs.Common.{◌≡◌, ℕ, ◌/◌, ◌%◌, ◌<◌, length, get_or}
use Rattle.slice_geometry.specs.SliceOrder.{level_rect}
use Rattle.slice_encoder.specs.SliceRects.{no_rect}
use Rattle.slice_encoder.proofs.slice_rects.top_row.Given as goal

abbrev pub invariant-loop-n : goal.invariant-loop-n
invariant-loop-n l = record {
  count : length l.rects.items ≡ l.n;
  each : (k : ℕ) → k < l.n → get_or l.rects.items k no_rect ≡ level_rect l.layout l.size (k % l.layout.slices_x) 0 (k / l.layout.slices_x);
}
