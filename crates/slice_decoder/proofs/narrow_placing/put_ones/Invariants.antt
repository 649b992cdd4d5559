use Rattle.std.proofs.Common.{◌≡◌, ℕ, ◌+◌, ◌-◌, ◌<◌, ◌≤◌, ◌⊎◌, get_or, pos}
use Rattle.slice_decoder.proofs.narrow_placing.put_ones.Given as goal

abbrev pub invariant-loop-x : goal.invariant-loop-x
invariant-loop-x l = record {
  begun : l.start ≤ l.x;
  inside : (x : ℕ) → l.start ≤ x → x < l.x → get_or l.row x (pos 0) ≡ get_or l.values (l.from + (x - l.start)) (pos 0);
  outside : (x : ℕ) → (x < l.start) ⊎ (l.x ≤ x) → get_or l.row x (pos 0) ≡ get_or l.fn.row x (pos 0);
}
