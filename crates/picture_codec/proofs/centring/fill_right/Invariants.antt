use Rattle.std.proofs.Common.{◌≡◌, ℕ, ◌<◌, ◌≤◌, get_or, pos}
use Rattle.picture_codec.proofs.centring.fill_right.Given as goal

abbrev pub invariant-loop-x : goal.invariant-loop-x
invariant-loop-x l = record {
  past : l.w ≤ l.x;
  kept : (k : ℕ) → k < l.w → get_or l.row k (pos 0) ≡ get_or l.fn.row k (pos 0);
  filled : (k : ℕ) → l.w ≤ k → k < l.x → get_or l.row k (pos 0) ≡ l.last;
}
