use Rattle.std.proofs.Common.{◌≡◌, ℕ, ◌*◌, ◌^◌, ◌<◌, ◌≤◌, min, length, pos}
use Rattle.std.specs.Prelude.{unsigned_abs}
use Rattle.planes.specs.Valued.{valued}
use Rattle.slice_encoder.specs.Sizes.{turn_at}
use Rattle.slice_encoder.proofs.sizes.put_pairs.Given as goal

abbrev pub invariant-loop-place : goal.invariant-loop-place
invariant-loop-place G l = record {
  same_length : length l.out ≡ length l.fn.out;
  sizes : (p : ℕ) → p < 2 * l.place → valued G.T.Number.value G.T.Number.none l.out p ≡ pos (min (unsigned_abs (turn_at l.first l.second p)) G.T.Magnitude.greatest);
  rest : (p : ℕ) → 2 * l.place ≤ p → valued G.T.Number.value G.T.Number.none l.out p ≡ valued G.T.Number.value G.T.Number.none l.fn.out p;
  most : (p : ℕ) → p < 2 * l.place → unsigned_abs (turn_at l.first l.second p) ≤ l.top;
  few : l.top ≤ 2 ^ 27;
}
