use Rattle.std.proofs.Common.{ℕ, ◌<◌, pos}
use Rattle.std.specs.Prelude.{slice_index_or}
use Rattle.dc_prediction.specs.Restoring.{IsNarrow}
use Rattle.picture_tests.proofs.dc_prediction_tests.narrow.are_narrow.Given as goal

abbrev pub invariant-loop-value : goal.invariant-loop-value
invariant-loop-value l = (x : ℕ) → x < l.value-index → IsNarrow (slice_index_or l.row x (pos 0))
