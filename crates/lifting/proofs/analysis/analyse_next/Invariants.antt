use Rattle.std.proofs.Common.{◌≡◌, ℕ, ◌*◌, ◌<◌, ◌≤◌}
use Rattle.planes.specs.Valued.{grid_of}
use Rattle.lifting.specs.Transform.{analysis_level, every_other}
use Rattle.lifting.specs.Ranges.{SameInside}
use Rattle.lifting.specs.Bands.{SameSizes, HoldLevel, OtherLevelsStay}
use Rattle.lifting.specs.LevelRows.{HasRows, IsReady}
use Rattle.lifting.specs.Turns.{SameSize}
use Rattle.lifting.proofs.analysis.analyse_next.Given as goal

abbrev pub ghost-put_row : goal.ghost-put_row
ghost-put_row g a = g.g

abbrev pub invariant-loop-j : goal.invariant-loop-j
invariant-loop-j G l =
    let grid = grid_of G.T.Number.value G.T.Number.none in
    let level = analysis_level l.fn.wavelet (2 * l.h) (2 * l.w) G.g in
    record {
      same_size : SameSize l.fn.plane l.plane;
      same_sizes : SameSizes l.fn.bands l.bands;
      same_reference : l.down.ring.ghost_name ≡ l.initial.down.ring.ghost_name;
      is : (l.down.w ≡ l.w) × (l.down.h ≡ l.h) × (l.down.wavelet ≡ l.fn.wavelet);
      ready : IsReady l.down;
      came : l.down.came ≡ l.j;
      has : HasRows G.T.Number.value G.T.Number.none G.g l.down;
      rest : (i x : ℕ) → l.j ≤ i → i < 2 * l.h → x < 2 * l.w → grid l.plane i x ≡ G.g i x;
      left : SameInside l.down.made l.w (grid l.plane) (every_other 0 0 level);
      dealt : HoldLevel G.T.Number.value G.T.Number.none l.down.made l.w level l.level l.bands;
      others : OtherLevelsStay l.level l.fn.bands l.bands;
    }
