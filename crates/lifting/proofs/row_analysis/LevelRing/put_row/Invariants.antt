use Rattle.lifting.proofs.row_analysis.LevelRing.put_row.Given as goal

abbrev pub ghost-take_row : goal.ghost-take_row
ghost-take_row g a = g.g
