use Rattle.slice_encoder.proofs.encoder.SliceEncoder.encode_lists.Given as goal

abbrev pub ghost-take_lists : goal.ghost-take_lists
ghost-take_lists g a = g.coefficients

abbrev pub ghost-encode_gathered : goal.ghost-encode_gathered
ghost-encode_gathered g a = g.coefficients
