use Rattle.std.proofs.Common.{◌≡◌, ℕ, ◌+◌, ◌-◌, ◌<◌, ◌≤◌, ◌⊎◌, get_or, pos}
use Rattle.slice_decoder.proofs.narrow_placing.put_all.Given as goal

abbrev pub invariant-loop-i : goal.invariant-loop-i
invariant-loop-i l = record {
  inside : (j : ℕ) → l.x ≤ j → j < l.x + l.i → get_or l.row j (pos 0) ≡ get_or l.four (j - l.x) (pos 0);
  outside : (j : ℕ) → (j < l.x) ⊎ (l.x + l.i ≤ j) → get_or l.row j (pos 0) ≡ get_or l.fn.row j (pos 0);
}
