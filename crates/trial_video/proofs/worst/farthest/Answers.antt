use Rattle.std.proofs.Common.{◌∙◌, arith}
use Rattle.trial_video.proofs.Farthest.{farthest_next, farthest_all}
use Rattle.trial_video.proofs.worst.farthest.Goals as goal

pub loop-k-preserved : goal.loop-k-preserved
loop-k-preserved c =
    farthest_next c.args.raw.now c.args.decoded.now c.loop-k.k c.loop-k.most c.max-most.result c.abs_diff.result (omega (arith, c.loop-k-test.true, c.min-k-end.ensures)) (omega (arith, c.loop-k-test.true, c.min-k-end.ensures)) c.loop-k.invariant c.abs_diff.ensures
    (omega (arith, c.max-most.ensures))

pub returns : goal.returns
returns c = c.loop-k.invariant ∙ farthest_all c.args.raw.now c.args.decoded.now c.loop-k.k (omega (arith, c.loop-k-test.false, c.min-k-end.ensures))
