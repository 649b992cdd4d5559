use Rattle.lifting.proofs.in_place.put_next.Given as goal

abbrev pub ghost-put_pair : goal.ghost-put_pair
ghost-put_pair g a = g.g
