use Rattle.picture_tests.proofs.slice_decoder_tests.slices.zeros.Goals as goal

pub returns : goal.returns
returns g c = λ sx sy. record {
  luma = c.zero_bands.ensures sx sy;
  c1 = c.zero_bands-2.ensures sx sy;
  c2 = c.zero_bands-3.ensures sx sy;
}
