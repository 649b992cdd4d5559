use Rattle.std.proofs.Common.{◌≡◌, ℕ, ◌^◌, ◌<◌, ◌≤◌, min, length, get_or, pos}
use Rattle.std.specs.Prelude.{unsigned_abs}
use Rattle.planes.specs.Valued.{valued}
use Rattle.slice_encoder.proofs.sizes.put_sizes.Given as goal

abbrev pub invariant-loop-place : goal.invariant-loop-place
invariant-loop-place G l = record {
  same_length : length l.out ≡ length l.fn.out;
  sizes : (p : ℕ) → p < l.place → valued G.T.Number.value G.T.Number.none l.out p ≡ pos (min (unsigned_abs (get_or l.coefficients p (pos 0))) G.T.Magnitude.greatest);
  rest : (p : ℕ) → l.place ≤ p → valued G.T.Number.value G.T.Number.none l.out p ≡ valued G.T.Number.value G.T.Number.none l.fn.out p;
  most : (p : ℕ) → p < l.place → unsigned_abs (get_or l.coefficients p (pos 0)) ≤ l.top;
  few : l.top ≤ 2 ^ 27;
}
