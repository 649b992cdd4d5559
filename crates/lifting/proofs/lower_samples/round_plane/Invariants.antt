use Rattle.std.proofs.Common.{◌≡◌, ℕ, ◌<◌, ◌≤◌}
use Rattle.planes.specs.Valued.{grid_of}
use Rattle.lifting.specs.LowerSamples.{rounded}
use Rattle.lifting.specs.Turns.{SameSize}
use Rattle.lifting.proofs.lower_samples.round_plane.Given as goal

abbrev pub invariant-loop-y : goal.invariant-loop-y
invariant-loop-y G l = record {
  same_size : SameSize l.fn.plane l.plane;
  done : (y x : ℕ) → y < l.y → x < l.fn.plane.w → grid_of G.T.Number.value G.T.Number.none l.plane y x ≡ rounded l.shift (grid_of G.T.Number.value G.T.Number.none l.fn.plane y x);
  rest : (y x : ℕ) → l.y ≤ y → grid_of G.T.Number.value G.T.Number.none l.plane y x ≡ grid_of G.T.Number.value G.T.Number.none l.fn.plane y x;
}
