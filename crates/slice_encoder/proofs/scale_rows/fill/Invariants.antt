use Rattle.std.proofs.Common.{◌≡◌, ℕ, ◌<◌, ◌≤◌, length}
use Rattle.std.specs.Prelude.{slice_index}
use Rattle.slice_encoder.proofs.scale_rows.fill.Given as goal

abbrev pub invariant-loop-p : goal.invariant-loop-p
invariant-loop-p l = record {
  same_length : length l.out ≡ length l.fn.out;
  inside : (j : ℕ) → l.from ≤ j → j < l.p → slice_index l.out j ≡ l.number;
  before : (j : ℕ) → j < l.from → slice_index l.out j ≡ slice_index l.fn.out j;
}
