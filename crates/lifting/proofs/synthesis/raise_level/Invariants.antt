use Rattle.std.proofs.Common.{◌≡◌, ℕ, ◌+◌, ◌-◌, ◌*◌, ◌<◌, ◌≤◌}
use Rattle.planes.specs.Raster.{height}
use Rattle.planes.specs.Valued.{grid_of}
use Rattle.lifting.specs.LevelPairs.{rows_final, HasPairs, IsOpen}
use Rattle.lifting.specs.Transform.{every_other, synthesis_level}
use Rattle.lifting.specs.Turns.{SameSize}
use Rattle.lifting.proofs.synthesis.raise_level.Given as goal

abbrev pub ghost-put_pair : goal.ghost-put_pair
ghost-put_pair g a = g.g

abbrev pub ghost-take_rows : goal.ghost-take_rows
ghost-take_rows g a = g.g

abbrev pub invariant-loop-y : goal.invariant-loop-y
invariant-loop-y G l =
    let grid = grid_of G.T.Number.value G.T.Number.none in
    let v = l.level in
    record {
      same_size : SameSize l.fn.plane l.plane;
      same_ring : l.up.ring.ghost_name ≡ l.initial.up.ring.ghost_name;
      is : (l.up.w ≡ v.w) × (l.up.h ≡ v.h) × (l.up.wavelet ≡ v.wavelet);
      is_open : IsOpen l.up;
      came : l.up.came ≡ l.y;
      given : l.up.given ≡ rows_final v.wavelet v.h l.y;
      has : HasPairs G.T.Number.value G.T.Number.none G.g l.up;
      rest : (i x : ℕ) → l.y < v.h → l.y ≤ i + 1 → i < v.h → x < v.w → grid l.plane (height l.fn.plane - v.h + i) x ≡ every_other 0 0 G.g i x;
      done : (j x : ℕ) → j < l.up.given → x < 2 * v.w → grid l.plane (height l.fn.plane - 2 * v.h + j) x ≡ synthesis_level v.wavelet (2 * v.h) (2 * v.w) G.g j x;
    }
