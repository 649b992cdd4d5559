use Rattle.lifting.proofs.level_up.LevelUp.put_pair.Given as goal

abbrev pub ghost-put_even : goal.ghost-put_even
ghost-put_even g a = g.g

abbrev pub ghost-put_odd : goal.ghost-put_odd
ghost-put_odd g a = g.g
