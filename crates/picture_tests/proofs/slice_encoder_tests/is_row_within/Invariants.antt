use Rattle.std.proofs.Common.{ℕ, ◌<◌, pos}
use Rattle.std.specs.Prelude.{slice_index_or}
use Rattle.planes.specs.Numbers.{Within}
use Rattle.picture_tests.proofs.slice_encoder_tests.is_row_within.Given as goal

abbrev pub invariant-loop-value : goal.invariant-loop-value
invariant-loop-value l = (x : ℕ) → x < l.value-index → Within l.most (slice_index_or l.row x (pos 0))
