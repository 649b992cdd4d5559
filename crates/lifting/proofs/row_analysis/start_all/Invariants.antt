use Rattle.std.proofs.Common.{◌≡◌, ℕ, ◌<◌, ◌≤◌}
use Rattle.lifting.specs.RowAnalysis.{level_at, IsUnused}
use Rattle.lifting.proofs.row_analysis.start_all.Given as goal

abbrev pub invariant-loop-j : goal.invariant-loop-j
invariant-loop-j G l = record {
  started : (i : ℕ) → i < l.j → IsUnused (level_at l.fn.levels i).w (level_at l.fn.levels i).h (level_at l.levels i);
  waiting : (i : ℕ) → l.j ≤ i → level_at l.levels i ≡ level_at l.fn.levels i;
}
