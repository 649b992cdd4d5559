use Rattle.std.proofs.Common.{ℕ, ◌<◌, ◌^◌, pos}
use Rattle.std.specs.Prelude.{slice_index_or}
use Rattle.planes.specs.Numbers.{Within}
use Rattle.picture_tests.proofs.dc_prediction_tests.wide.are_small.Given as goal

abbrev pub invariant-loop-value : goal.invariant-loop-value
invariant-loop-value l = (x : ℕ) → x < l.value-index → Within (2 ^ 36) (slice_index_or l.row x (pos 0))
