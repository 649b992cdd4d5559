use Rattle.std.proofs.Common.{◌≡◌}
use Rattle.slice_store.specs.Writing.{with_numbers}
use Rattle.slice_store.proofs.Rows.{IsRowPut}
use Rattle.slice_store.proofs.SliceStore.put_row.Given as goal

abbrev pub invariant-loop-sx : goal.invariant-loop-sx
invariant-loop-sx g l = record {
  same : l.self ≡ with_numbers l.fn.self l.self.numbers;
  put : IsRowPut l.fn.self g.T.Number.none l.level l.orient l.y l.row l.self.numbers l.sx;
}
