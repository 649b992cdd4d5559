use Rattle.std.proofs.Common.{◌≡◌, ℕ, ◌<◌, ◌≤◌, get_or, pos, true, unsigned_abs}
use Rattle.std.specs.Prelude.{◌↔◌}
use Rattle.slice_decoder.specs.Restored.{restored_at}
use Rattle.slice_decoder.specs.StepRows.{quantisers_by}
use Rattle.slice_decoder.proofs.step_rows.StepRow.restore.Given as goal

abbrev pub invariant-loop-k : goal.invariant-loop-k
invariant-loop-k l = record {
  all : (l.all ≡ true) ↔ ((j : ℕ) → j < l.k → unsigned_abs (get_or l.fn.values j (pos 0)) ≤ get_or l.limits j 0);
  done : (j : ℕ) → j < l.k → unsigned_abs (get_or l.fn.values j (pos 0)) ≤ get_or l.limits j 0 → get_or l.values j (pos 0) ≡ restored_at l.fn.values (quantisers_by l.self.key) j;
  rest : (j : ℕ) → l.k ≤ j → get_or l.values j (pos 0) ≡ get_or l.fn.values j (pos 0);
}
