use Rattle.std.proofs.Common.{◌≡◌, ◌+◌, ◌-◌, ◌*◌, ◌≤◌, drop}
use Rattle.slice_decoder.proofs.Rects.{RowsHold}
use Rattle.slice_decoder.proofs.narrow_placing.put_rows.Given as goal

abbrev pub invariant-loop-y : goal.invariant-loop-y
invariant-loop-y l = record {
  begun : l.fn.rect.y0 ≤ l.y;
  place : l.place ≡ l.from + (l.y - l.fn.rect.y0) * (l.fn.rect.x1 - l.fn.rect.x0);
  rows : RowsHold 1 0 l.fn.rect l.y (drop l.from l.values) l.fn.plane l.plane;
}
