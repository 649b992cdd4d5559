use Rattle.lifting.proofs.level_up.LevelUp.sample_row.Given as goal

abbrev pub ghost-fetch : goal.ghost-fetch
ghost-fetch g a = g.g
