use Rattle.std.proofs.Common.{subst, sym, rules}
use Rattle.std.specs.Prelude.{max}
use Rattle.slice_encoder.specs.Encoded.{SliceEncoderSeen}
use Rattle.slice_encoder.specs.TrialLaws.{IsSteepOk}
use Rattle.picture_tests.proofs.slice_encoder_tests.bounds.Goals as goal

pub first_candidate-first-requires-clause-steep : goal.first_candidate-first-requires-clause-steep
first_candidate-first-requires-clause-steep g c =
    let p = c.args.picture.now in
    subst (λ (e : SliceEncoderSeen). IsSteepOk e.slicing.depth (max e.shape.luma_depth e.shape.colour_depth) p.matrix)
    (sym (rw c.expect-encoder.ensures at c.new-made.ensures)) (c.can_write.ensures.steep (search rules))
