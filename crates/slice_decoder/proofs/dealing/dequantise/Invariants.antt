use Rattle.std.proofs.Common.{◌≡◌, ℕ, ◌^◌, ◌<◌, ◌≤◌, get_or, pos, unsigned_abs}
use Rattle.quant_factors.specs.Factors.{inverse_of}
use Rattle.slice_decoder.proofs.dealing.dequantise.Given as goal

abbrev pub invariant-loop-value : goal.invariant-loop-value
invariant-loop-value l = record {
  done : (k : ℕ) → k < l.value-index → get_or l.values k (pos 0) ≡ inverse_of (get_or l.fn.values k (pos 0)) l.index;
  small : (k : ℕ) → k < l.value-index → unsigned_abs (inverse_of (get_or l.fn.values k (pos 0)) l.index) ≤ 2 ^ 36;
  rest : (k : ℕ) → l.value-index ≤ k → get_or l.values k (pos 0) ≡ get_or l.fn.values k (pos 0);
}
