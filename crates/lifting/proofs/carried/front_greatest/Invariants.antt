use Rattle.std.proofs.Common.{ℕ, ◌≤◌}
use Rattle.std.specs.Prelude.{◌↔◌}
use Rattle.lifting.specs.Places.{place}
use Rattle.lifting.specs.Ranges.{LineWithin}
use Rattle.lifting.proofs.carried.front_greatest.Given as goal

abbrev pub invariant-loop-i : goal.invariant-loop-i
invariant-loop-i l = (m : ℕ) → (l.most ≤ m) ↔ LineWithin l.i m (place l.row)
