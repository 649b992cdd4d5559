use Rattle.std.proofs.Common.{◌≡◌, ℕ, ◌+◌, ◌<◌, ◌≤◌, length, get_or}
use Rattle.slice_geometry.specs.SliceOrder.{level_rect}
use Rattle.slice_decoder.specs.Levels.{no_rect}
use Rattle.slice_decoder.proofs.levels.level_rects.Given as goal

abbrev pub invariant-loop-k : goal.invariant-loop-k
invariant-loop-k l = record {
  count : length l.rects ≡ 5;
  same : (j : ℕ) → l.depth < j + l.k → j ≤ l.depth → get_or l.rects j no_rect ≡ level_rect l.layout l.fn.size l.fn.place.sx l.fn.place.sy j;
}
