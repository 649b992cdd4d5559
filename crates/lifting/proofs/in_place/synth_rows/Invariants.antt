use Rattle.std.proofs.Common.{◌≡◌, ℕ, ◌-◌, ◌*◌, ◌<◌, ◌≤◌, length}
use Rattle.planes.specs.Valued.{grid_of}
use Rattle.lifting.specs.InPlace.{HasPair}
use Rattle.lifting.specs.LevelPairs.{rows_final, HasPairs, IsOpen}
use Rattle.lifting.specs.Transform.{synthesis_level}
use Rattle.lifting.specs.Turns.{SameSize}
use Rattle.lifting.proofs.in_place.synth_rows.Given as goal

abbrev pub ghost-put_next : goal.ghost-put_next
ghost-put_next g a = g.g

abbrev pub ghost-take_rows : goal.ghost-take_rows
ghost-take_rows g a = g.g

abbrev pub invariant-loop-y : goal.invariant-loop-y
invariant-loop-y G l =
    let grid = grid_of G.T.Number.value G.T.Number.none in
    record {
      same_size : SameSize l.fn.plane l.plane;
      same_ring : l.up.ring.ghost_name ≡ l.initial.up.ring.ghost_name;
      is : (l.up.w ≡ l.w) × (l.up.h ≡ l.h) × (l.up.wavelet ≡ l.fn.wavelet);
      is_open : IsOpen l.up;
      came : l.up.came ≡ l._y;
      given : l.up.given ≡ rows_final l.up.wavelet l.up.h l.up.came;
      has : HasPairs G.T.Number.value G.T.Number.none G.g l.up;
      room : length l.pairs ≡ length l.fn.pairs;
      pair : 1 ≤ l.up.came → HasPair G.T.Number.value G.T.Number.none l.up.w (l.up.came - 1) G.g l.pairs;
      done : (j x : ℕ) → j < l.up.given → x < 2 * l.w → grid l.plane j x ≡ synthesis_level l.fn.wavelet (2 * l.h) (2 * l.w) G.g j x;
      rest : (j x : ℕ) → l.up.given ≤ j → grid l.plane j x ≡ G.g j x;
      beside : (j x : ℕ) → 2 * l.w ≤ x → grid l.plane j x ≡ G.g j x;
    }
