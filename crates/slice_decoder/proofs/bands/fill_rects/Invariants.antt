use Rattle.std.proofs.Common.{◌≡◌, ◌-◌, ◌*◌, ◌≤◌, true, replicate}
use Rattle.slice_decoder.specs.Slice.{are_small}
use Rattle.slice_decoder.specs.Dealing.{dealt, behind}
use Rattle.slice_decoder.proofs.Rects.{RowsHold}
use Rattle.slice_decoder.proofs.bands.fill_rects.Given as goal

abbrev pub invariant-loop-y : goal.invariant-loop-y
invariant-loop-y l = record {
  begun : l.rect.y0 ≤ l.y;
  small : are_small (dealt l.fn.block (replicate (2 * ((l.y - l.rect.y0) * (l.rect.x1 - l.rect.x0))) l.index)) ≡ true;
  left : l.block ≡ behind l.fn.block (replicate (2 * ((l.y - l.rect.y0) * (l.rect.x1 - l.rect.x0))) l.index);
  first : RowsHold 2 0 l.rect l.y (dealt l.fn.block (replicate (2 * ((l.y - l.rect.y0) * (l.rect.x1 - l.rect.x0))) l.index)) l.fn.first l.first;
  second : RowsHold 2 1 l.rect l.y (dealt l.fn.block (replicate (2 * ((l.y - l.rect.y0) * (l.rect.x1 - l.rect.x0))) l.index)) l.fn.second l.second;
}
