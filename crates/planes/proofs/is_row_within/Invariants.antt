use Rattle.std.proofs.Common.{◌≡◌, ℕ, ◌<◌, get_or, pos, true}
use Rattle.std.specs.Prelude.{◌↔◌}
use Rattle.planes.specs.Bounded.{IsWithin}
use Rattle.planes.proofs.is_row_within.Given as goal

abbrev pub invariant-loop-value : goal.invariant-loop-value
invariant-loop-value l = (l.all ≡ true) ↔ ((k : ℕ) → k < l.value-index → IsWithin l.bound (get_or l.row k (pos 0)))
