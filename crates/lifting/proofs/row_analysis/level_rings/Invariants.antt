use Rattle.std.proofs.Common.{◌≡◌, ℕ, suc, ◌/◌, ◌^◌, ◌<◌, length}
use Rattle.lifting.specs.RowAnalysis.{level_at, IsUnused}
use Rattle.lifting.proofs.row_analysis.level_rings.Given as goal

abbrev pub invariant-loop-j : goal.invariant-loop-j
invariant-loop-j G l = record {
  count : length l.levels.items ≡ l.j;
  each : (i : ℕ) → i < l.j → IsUnused (l.w / 2 ^ suc i) (l.h / 2 ^ suc i) (level_at l.levels.items i);
}
