use Rattle.std.proofs.Common.{◌≡◌, ◌+◌, ◌-◌, ◌*◌, ◌≤◌, drop}
use Rattle.planes.specs.Valued.{valued}
use Rattle.slice_decoder.proofs.Rects.{RowsHoldOf}
use Rattle.slice_decoder.proofs.placing.put_rect.Given as goal

abbrev pub invariant-loop-y : goal.invariant-loop-y
invariant-loop-y g l = record {
  begun : l.fn.rect.y0 ≤ l.y;
  place : l.place ≡ l.at + g.row.EACH * ((l.y - l.fn.rect.y0) * (l.fn.rect.x1 - l.fn.rect.x0));
  rows : RowsHoldOf g.T.Number.value g.T.Number.none g.row.EACH l.from l.fn.rect l.y (valued g.V.Number.value g.V.Number.none (drop l.at l.values)) l.fn.plane l.plane;
}
