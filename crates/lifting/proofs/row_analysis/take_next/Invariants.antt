use Rattle.lifting.proofs.row_analysis.take_next.Given as goal

abbrev pub ghost-take_first : goal.ghost-take_first
ghost-take_first g a = g.g
