use Rattle.slice_encoder.proofs.search.try_at.Given as goal

abbrev pub ghost-try_lowest : goal.ghost-try_lowest
ghost-try_lowest g a = g.coefficients

abbrev pub ghost-count_needs : goal.ghost-count_needs
ghost-count_needs g a = g.coefficients
