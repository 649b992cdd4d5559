use Rattle.std.proofs.Common.{subst, sym, rules}
use Rattle.slice_encoder.specs.Encoded.{SliceEncoderSeen}
use Rattle.slice_encoder.specs.Ready.{coded_picture, AreReadyToWrite}
use Rattle.picture_tests.proofs.slice_encoder_tests.fits.Goals as goal

pub trial-trial-requires-clause-ready : goal.trial-trial-requires-clause-ready
trial-trial-requires-clause-ready g c =
    let p = c.args.picture.now in
    subst (λ (e : SliceEncoderSeen). AreReadyToWrite (coded_picture e.slicing e.shape p.matrix p.coefficients) 0 0 p.kept)
    (sym (rw c.expect-encoder.ensures at c.new-made.ensures)) (c.can_write.ensures.ready (search rules))
