use Rattle.slice_encoder.proofs.slices.try_rows.Given as goal

abbrev pub ghost-try_at : goal.ghost-try_at
ghost-try_at g a = g.seen
