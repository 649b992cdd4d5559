use Rattle.lifting.proofs.level_down.LevelDown.put_row.Given as goal

abbrev pub ghost-take_row : goal.ghost-take_row
ghost-take_row g a = g.g
