use Rattle.std.proofs.Common.{◌≡◌, ℕ, ◌+◌, ◌<◌}
use Rattle.planes.specs.Valued.{grid_of}
use Rattle.lifting.specs.Turns.{SameSize}
use Rattle.lifting.proofs.lifted.copy_corner.Given as goal

abbrev pub invariant-loop-y : goal.invariant-loop-y
invariant-loop-y G l = record {
  same_size : SameSize l.fn.dst l.dst;
  copied : (y x : ℕ) → y < l.y → x < l.w → grid_of G.T.Number.value G.T.Number.none l.dst (l.top + y) x ≡ grid_of G.T.Number.value G.T.Number.none l.src y x;
}
