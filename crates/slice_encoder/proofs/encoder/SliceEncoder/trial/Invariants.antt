use Rattle.slice_encoder.proofs.encoder.SliceEncoder.trial.Given as goal

abbrev pub ghost-try_rows : goal.ghost-try_rows
ghost-try_rows a = a.coefficients.now
