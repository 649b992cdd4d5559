use Rattle.std.proofs.Common.{◌≡◌, ℕ, ◌<◌, get_or, pos}
use Rattle.planes.proofs.narrow_bands.widen_row.Given as goal

abbrev pub invariant-loop-x : goal.invariant-loop-x
invariant-loop-x l = (i : ℕ) → i < l.x → get_or l.wide i (pos 0) ≡ get_or l.narrow i (pos 0)
