use Rattle.picture_tests.proofs.slice_decoder_tests.narrow_slices.expect_two_places.Goals as goal

pub values_of-values-requires-clause-ready : goal.values_of-values-requires-clause-ready
values_of-values-requires-clause-ready g c = c.zeros-bands.ensures.ready 0 0
