use Rattle.std.proofs.Common.{◌≡◌, ℕ, ◌+◌, ◌*◌, ◌^◌, ◌≤◌, length, get_or}
use Rattle.slice_store.specs.Room.{strip_start}
use Rattle.slice_store.proofs.starts_of.Given as goal

abbrev pub invariant-loop-k : goal.invariant-loop-k
invariant-loop-k l = record {
  count : length l.starts.items ≡ l.strips + 1;
  short : get_or l.starts.items l.k 0 ≤ l.k * 2 ^ 30;
  each : (j : ℕ) → j ≤ l.k → get_or l.starts.items j 0 ≡ strip_start l.cuts.slicing l.cuts.size l.strips j;
}
