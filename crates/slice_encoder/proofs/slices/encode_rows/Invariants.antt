use Rattle.slice_encoder.proofs.slices.encode_rows.Given as goal

abbrev pub ghost-encode_gathered : goal.ghost-encode_gathered
ghost-encode_gathered g a = g.seen
