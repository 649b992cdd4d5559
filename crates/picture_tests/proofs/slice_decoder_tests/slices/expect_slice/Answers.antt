use Rattle.picture_tests.proofs.slice_decoder_tests.slices.expect_slice.Goals as goal

pub decode_first-found-requires : goal.decode_first-found-requires
decode_first-found-requires g c = c.zeros-bands.ensures 0 0
