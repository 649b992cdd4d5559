use Rattle.lifting.specs.LevelRoom.{last_rows}
use Rattle.lifting.specs.Turns.{level_grid}
use Rattle.lifting.proofs.synthesis_samples.synth_last.Given as goal

abbrev pub ghost-sample_level : goal.ghost-sample_level
ghost-sample_level g a = level_grid g.T.Number.value g.T.Number.none (last_rows g.T.Number.value g.T.Number.none a.level.now.h a.plane.now) a.level.now
