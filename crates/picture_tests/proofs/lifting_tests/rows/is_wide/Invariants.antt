use Rattle.std.proofs.Common.{ℕ, ◌<◌, ◌^◌}
use Rattle.planes.specs.Numbers.{Within}
use Rattle.lifting.specs.Places.{place}
use Rattle.picture_tests.proofs.lifting_tests.rows.is_wide.Given as goal

abbrev pub invariant-loop-value : goal.invariant-loop-value
invariant-loop-value l = (x : ℕ) → x < l.value-index → Within (2 ^ 61) (place l.row x)
