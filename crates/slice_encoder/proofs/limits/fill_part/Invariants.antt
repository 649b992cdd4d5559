use Rattle.std.proofs.Common.{◌≡◌, ℕ, ◌+◌, ◌-◌, ◌<◌, ◌≤◌, min, length, pos}
use Rattle.std.specs.Prelude.{slice_index}
use Rattle.planes.specs.Valued.{valued}
use Rattle.slice_encoder.specs.Limits.{limit_at, quantiser_in}
use Rattle.slice_encoder.proofs.limits.fill_part.Given as goal

abbrev pub invariant-loop-b : goal.invariant-loop-b
invariant-loop-b G l = record {
  from_is : l.from ≡ slice_index l.key.ends (l.b - 1);
  same_length : length l.limits ≡ length l.fn.limits;
  done : (b p : ℕ) → 1 ≤ b → b < l.b → slice_index l.key.ends (b - 1) ≤ p → p < slice_index l.key.ends b
      → valued G.T.Number.value G.T.Number.none l.limits p ≡ pos (min (limit_at (l.k + 1) (quantiser_in l.key l.index b)) G.T.Magnitude.greatest);
}
