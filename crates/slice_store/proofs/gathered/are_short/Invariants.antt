use Rattle.std.proofs.Common.{◌≡◌, ℕ, ◌<◌, get_or, pos, true}
use Rattle.std.specs.Prelude.{◌↔◌}
use Rattle.planes.specs.Bounded.{IsWithin}
use Rattle.slice_store.specs.declared.short_bands.TheConstants.{MAX_SHORT}
use Rattle.slice_store.proofs.gathered.are_short.Given as goal

abbrev pub invariant-loop-k : goal.invariant-loop-k
invariant-loop-k l = (l.all ≡ true) ↔ ((j : ℕ) → j < l.k → IsWithin MAX_SHORT (get_or l.values j (pos 0)))
