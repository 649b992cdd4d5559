use Rattle.std.proofs.Common.{◌≡◌, ◌-◌, ◌*◌, length}
use Rattle.lifting.specs.LevelPairs.{rows_final, HoldsPair, HasPairs, IsOpen}
use Rattle.lifting.specs.SampleRoom.{AreSamplesTo}
use Rattle.lifting.specs.Transform.{synthesis_level}
use Rattle.lifting.proofs.synthesis_samples.sample_level.Given as goal

abbrev pub ghost-put_pair : goal.ghost-put_pair
ghost-put_pair g a = g.g

abbrev pub ghost-sample_rows : goal.ghost-sample_rows
ghost-sample_rows g a = g.g

abbrev pub invariant-loop-y : goal.invariant-loop-y
invariant-loop-y G l =
    let v = l.level in
    record {
      same_ring : l.up.ring.ghost_name ≡ l.initial.up.ring.ghost_name;
      is : (l.up.w ≡ v.w) × (l.up.h ≡ v.h) × (l.up.wavelet ≡ v.wavelet);
      is_open : IsOpen l.up;
      came : l.up.came ≡ l.y;
      given : l.up.given ≡ rows_final v.wavelet v.h l.y;
      has : HasPairs G.T.Number.value G.T.Number.none G.g l.up;
      above : HoldsPair G.T.Number.value G.T.Number.none v.w (l.y - 1) G.g l.above;
      count : length l.samples ≡ length l.fn.samples;
      done : AreSamplesTo l.up.given l.area l.samples (synthesis_level v.wavelet (2 * v.h) (2 * v.w) G.g);
    }
