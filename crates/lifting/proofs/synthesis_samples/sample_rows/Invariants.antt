use Rattle.std.proofs.Common.{◌≡◌, ◌*◌, ◌-◌, length}
use Rattle.lifting.specs.LevelPairs.{rows_final, HasPairs, IsOpen, IsSameUp}
use Rattle.lifting.specs.SampleRoom.{AreSamplesTo}
use Rattle.lifting.specs.Transform.{synthesis_level}
use Rattle.lifting.proofs.synthesis_samples.sample_rows.Given as goal

abbrev pub ghost-sample_next : goal.ghost-sample_next
ghost-sample_next g a = g.g

abbrev pub invariant-loop-up : goal.invariant-loop-up
invariant-loop-up G l =
    let v = l.fn.up in
    record {
      same_level : IsSameUp v l.up;
      is_open : IsOpen l.up;
      came : l.up.came ≡ v.came;
      has : HasPairs G.T.Number.value G.T.Number.none G.g l.up;
      count : length l.samples ≡ length l.fn.samples;
      done : AreSamplesTo l.up.given l.area l.samples (synthesis_level v.wavelet (2 * v.h) (2 * v.w) G.g);
    }

abbrev pub decreases-loop-up : goal.decreases-loop-up
decreases-loop-up G l = rows_final l.up.wavelet l.up.h l.up.came - l.up.given
