use Rattle.lifting.proofs.row_analysis.take_first.Given as goal

abbrev pub ghost-put_row : goal.ghost-put_row
ghost-put_row g a = g.g
