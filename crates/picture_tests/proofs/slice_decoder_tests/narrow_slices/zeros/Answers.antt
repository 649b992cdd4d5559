use Rattle.picture_tests.proofs.slice_decoder_tests.narrow_slices.zeros.Goals as goal

pub returns-clause-ready : goal.returns-clause-ready
returns-clause-ready g c = λ sx sy. record {
  luma = c.zero_bands.ensures.ready sx sy;
  c1 = c.zero_bands-2.ensures.ready sx sy;
  c2 = c.zero_bands-3.ensures.ready sx sy;
}
