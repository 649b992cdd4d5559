use Rattle.std.proofs.Common.{◌≡◌, ℕ, ◌+◌, ◌*◌, ◌<◌, ◌≤◌}
use Rattle.planes.specs.Valued.{grid_of}
use Rattle.lifting.specs.LevelPairs.{HasPairs, IsOpen, IsSameUp}
use Rattle.lifting.specs.Transform.{synthesis_level}
use Rattle.lifting.specs.Turns.{SameSize}
use Rattle.lifting.proofs.synthesis.take_rows.Given as goal

abbrev pub ghost-row : goal.ghost-row
ghost-row g a = g.g

abbrev pub invariant-loop-j : goal.invariant-loop-j
invariant-loop-j G l =
    let grid = grid_of G.T.Number.value G.T.Number.none in
    let v = l.fn.up in
    record {
      same_size : SameSize l.fn.plane l.plane;
      same_level : IsSameUp v l.up;
      is_open : IsOpen l.up;
      came : l.up.came ≡ v.came;
      given : l.up.given ≡ l.j;
      has : HasPairs G.T.Number.value G.T.Number.none G.g l.up;
      low : v.given ≤ l.j;
      rows : (y x : ℕ) → v.given ≤ y → y < l.j → x < 2 * v.w → grid l.plane (l.top + y) x ≡ synthesis_level v.wavelet (2 * v.h) (2 * v.w) G.g y x;
      above : (y x : ℕ) → y < l.top + v.given → grid l.plane y x ≡ grid l.fn.plane y x;
      below : (y x : ℕ) → l.top + l.j ≤ y → grid l.plane y x ≡ grid l.fn.plane y x;
      beside : (y x : ℕ) → 2 * v.w ≤ x → grid l.plane y x ≡ grid l.fn.plane y x;
    }
