use Rattle.std.proofs.Common.{◌≡◌, ℕ, ◌+◌, ◌-◌, ◌*◌, ◌<◌, ◌≤◌, ◌⊎◌, get_or, pos}
use Rattle.slice_decoder.proofs.narrow_placing.put_pair_fours.Given as goal

abbrev pub invariant-loop-x : goal.invariant-loop-x
invariant-loop-x l = record {
  begun : l.start ≤ l.x;
  ended : l.x ≤ l.end;
  first : (j : ℕ) → l.start ≤ j → j < l.x → get_or l.first j (pos 0) ≡ get_or l.values (l.from + 2 * (j - l.start)) (pos 0);
  second : (j : ℕ) → l.start ≤ j → j < l.x → get_or l.second j (pos 0) ≡ get_or l.values (l.from + (2 * (j - l.start) + 1)) (pos 0);
  first_stays : (j : ℕ) → (j < l.start) ⊎ (l.x ≤ j) → get_or l.first j (pos 0) ≡ get_or l.fn.first j (pos 0);
  second_stays : (j : ℕ) → (j < l.start) ⊎ (l.x ≤ j) → get_or l.second j (pos 0) ≡ get_or l.fn.second j (pos 0);
}

abbrev pub decreases-loop-x : goal.decreases-loop-x
decreases-loop-x l = l.end - l.x
