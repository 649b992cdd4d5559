use Rattle.lifting.specs.LevelRoom.{last_rows}
use Rattle.lifting.specs.Turns.{level_grid}
use Rattle.lifting.proofs.synthesis.synth_next.Given as goal

abbrev pub ghost-raise_level : goal.ghost-raise_level
ghost-raise_level g a = level_grid g.T.Number.value g.T.Number.none (last_rows g.T.Number.value g.T.Number.none a.level.now.h a.plane.now) a.level.now
