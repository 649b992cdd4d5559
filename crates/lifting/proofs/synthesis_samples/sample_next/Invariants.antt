use Rattle.lifting.proofs.synthesis_samples.sample_next.Given as goal

abbrev pub ghost-sample_row : goal.ghost-sample_row
ghost-sample_row g a = g.g
