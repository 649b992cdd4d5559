use Rattle.slice_encoder.proofs.slices.encode_gathered.Given as goal

abbrev pub ghost-find_least : goal.ghost-find_least
ghost-find_least g a = g.coefficients

abbrev pub ghost-put : goal.ghost-put
ghost-put g a = g.coefficients
