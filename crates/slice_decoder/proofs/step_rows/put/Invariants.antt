use Rattle.std.proofs.Common.{◌≡◌, ℕ, ◌<◌, ◌≤◌, get_or}
use Rattle.slice_decoder.proofs.step_rows.put.Given as goal

abbrev pub invariant-loop-k : goal.invariant-loop-k
invariant-loop-k l = record {
  begun : l.from ≤ l.k;
  inside : (j : ℕ) → l.from ≤ j → j < l.k → get_or l.numbers j 0 ≡ l.number;
  before : (j : ℕ) → j < l.from → get_or l.numbers j 0 ≡ get_or l.fn.numbers j 0;
}
