use Rattle.std.proofs.Common.{◌≡◌, ◌-◌, length}
use Rattle.std.specs.Prelude.{slice_index}
use Rattle.slice_encoder.specs.ScaleRows.{AreScales}
use Rattle.slice_encoder.proofs.scale_rows.fill_row.Given as goal

abbrev pub invariant-loop-b : goal.invariant-loop-b
invariant-loop-b l = record {
  from_is : l.from ≡ slice_index l.key.ends (l.b - 1);
  same_numbers : length l.numbers ≡ length l.fn.numbers;
  same_shifts : length l.shifts ≡ length l.fn.shifts;
  done : AreScales l.key l.index l.numbers l.shifts (l.b - 1);
}
