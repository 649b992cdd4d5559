use Rattle.lifting.specs.LevelRoom.{HoldsLevels}
use Rattle.lifting.specs.Turns.{SameSize}
use Rattle.lifting.proofs.synthesis.synth_levels_of.Given as goal

abbrev pub invariant-loop-n : goal.invariant-loop-n
invariant-loop-n G l = record {
  same_size : SameSize l.fn.plane l.plane;
  same_size_scratch : SameSize l.fn.scratch l.scratch;
  levels : HoldsLevels G.T.Number.value G.T.Number.none l.wavelet l.bands l.size.w l.size.h l.n l.plane;
}
