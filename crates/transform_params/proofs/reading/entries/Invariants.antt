use Rattle.std.proofs.Common.{◌≡◌, ◌-◌, take, length}
use Rattle.field_rows.specs.Rows.{read, numbers}
use Rattle.field_rows.proofs.Counted.{with_front}
use Rattle.transform_params.specs.Params.{reason_of}
use Rattle.transform_params.proofs.reading.entries.Given as goal

abbrev pub invariant-loop-i : goal.invariant-loop-i
invariant-loop-i l = record {
  so_far : with_front (take l.i l.entries) (read reason_of (numbers (l.count - l.i)) l.r) ≡ read reason_of (numbers l.count) l.fn.r;
  room : length l.entries ≡ 13;
}
