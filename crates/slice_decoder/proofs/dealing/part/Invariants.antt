use Rattle.std.proofs.Common.{◌≡◌, ℕ, ◌+◌, ◌*◌, ◌<◌, get_or, pos}
use Rattle.slice_decoder.proofs.dealing.part.Given as goal

abbrev pub invariant-loop-k : goal.invariant-loop-k
invariant-loop-k l = record {
  first : (k : ℕ) → k < l.k → get_or l.first k (pos 0) ≡ get_or l.values (2 * k) (pos 0);
  second : (k : ℕ) → k < l.k → get_or l.second k (pos 0) ≡ get_or l.values (2 * k + 1) (pos 0);
}
