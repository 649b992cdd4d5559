use Rattle.std.proofs.Common.{pos}
use Rattle.lifting.specs.Carried.{AreShortTo}
use Rattle.lifting.specs.LevelRoom.{HoldsLevels}
use Rattle.lifting.specs.Turns.{SameSize}
use Rattle.lifting.proofs.short_samples.synth_short_levels.Given as goal

abbrev pub invariant-loop-n : goal.invariant-loop-n
invariant-loop-n l = record {
  same_size : SameSize l.fn.plane l.plane;
  same_size_scratch : SameSize l.fn.scratch l.scratch;
  short : AreShortTo l.wavelet l.bands l.size.w l.size.h l.n;
  levels : HoldsLevels (λ v. v) (pos 0) l.wavelet l.bands l.size.w l.size.h l.n l.plane;
}
