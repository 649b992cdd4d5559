use Rattle.std.proofs.Common.{◌≡◌, ℕ, ◌^◌, ◌<◌, ◌≤◌, get_or, pos, unsigned_abs}
use Rattle.quant_factors.specs.Factors.{inverse_of}
use Rattle.slice_decoder.proofs.narrow_restoring.restore_any.Given as goal

abbrev pub invariant-loop-k : goal.invariant-loop-k
invariant-loop-k l = record {
  done : (j : ℕ) → j < l.k → get_or l.values j (pos 0) ≡ inverse_of (get_or l.fn.values j (pos 0)) l.index;
  within : (j : ℕ) → j < l.k → unsigned_abs (inverse_of (get_or l.fn.values j (pos 0)) l.index) ≤ 2 ^ 18;
  rest : (j : ℕ) → l.k ≤ j → get_or l.values j (pos 0) ≡ get_or l.fn.values j (pos 0);
}
