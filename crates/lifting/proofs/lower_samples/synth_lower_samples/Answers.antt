use Rattle.std.proofs.Common.{arith}
use Rattle.lifting.proofs.Fitting.{wide_fits, wide_made}
use Rattle.lifting.proofs.lower_samples.synth_lower_samples.Goals as goal

pub synth_lower_samples_of-requires-clause-has_room : goal.synth_lower_samples_of-requires-clause-has_room
synth_lower_samples_of-requires-clause-has_room c = wide_fits c.args.wavelet _ _ c.args.bands.now.depth _ (omega (arith, c.depth.ensures)) c.requires.small

pub synth_lower_samples_of-requires-clause-made : goal.synth_lower_samples_of-requires-clause-made
synth_lower_samples_of-requires-clause-made c = wide_made c.args.wavelet _ _ c.args.bands.now.depth _ (omega (arith, c.depth.ensures)) c.requires.small c.args.at.level.levels c.requires.few
