use Rattle.lifting.proofs.level_down.take_row.Given as goal

abbrev pub ghost-put_sides : goal.ghost-put_sides
ghost-put_sides g a = g.g
