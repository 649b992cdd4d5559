use Rattle.std.proofs.Common.{arith}
use Rattle.lifting.proofs.Fitting.{wide_fits}
use Rattle.lifting.proofs.synthesis_samples.synth_samples.Goals as goal

pub synth_samples_of-requires-clause-has_room : goal.synth_samples_of-requires-clause-has_room
synth_samples_of-requires-clause-has_room c = wide_fits c.args.wavelet _ _ c.args.bands.now.depth _ (omega (arith, c.depth.ensures)) c.requires.small
