use Rattle.slice_encoder.proofs.encoder.SliceEncoder.encode_slice.Given as goal

abbrev pub ghost-encode_rows : goal.ghost-encode_rows
ghost-encode_rows a = a.coefficients.now
