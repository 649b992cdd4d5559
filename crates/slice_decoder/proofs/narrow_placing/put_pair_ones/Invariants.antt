use Rattle.std.proofs.Common.{◌≡◌, ℕ, ◌+◌, ◌-◌, ◌*◌, ◌<◌, ◌≤◌, ◌⊎◌, get_or, pos}
use Rattle.slice_decoder.proofs.narrow_placing.put_pair_ones.Given as goal

abbrev pub invariant-loop-x : goal.invariant-loop-x
invariant-loop-x l = record {
  begun : l.start ≤ l.x;
  first : (x : ℕ) → l.start ≤ x → x < l.x → get_or l.first x (pos 0) ≡ get_or l.values (l.from + 2 * (x - l.start)) (pos 0);
  second : (x : ℕ) → l.start ≤ x → x < l.x → get_or l.second x (pos 0) ≡ get_or l.values (l.from + (2 * (x - l.start) + 1)) (pos 0);
  first_stays : (x : ℕ) → (x < l.start) ⊎ (l.x ≤ x) → get_or l.first x (pos 0) ≡ get_or l.fn.first x (pos 0);
  second_stays : (x : ℕ) → (x < l.start) ⊎ (l.x ≤ x) → get_or l.second x (pos 0) ≡ get_or l.fn.second x (pos 0);
}
