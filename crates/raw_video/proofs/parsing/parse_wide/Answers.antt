use Rattle.std.proofs.Common.{◌+◌, ◌*◌, true, ap, ◌∙◌, arith, take}
use Rattle.raw_video.specs.RawParse.{samples_in}
use Rattle.raw_video.proofs.SampleLaws.{wide_more, wide_all}
use Rattle.raw_video.proofs.parsing.parse_wide.Goals as goal

pub loop-k-preserved : goal.loop-k-preserved
loop-k-preserved c =
    wide_more c.args.bytes.now c.loop-k.samples c.loop-k.k (c.from.result + 256 * c.from-in-loop-k.result) (omega (arith, c.loop-k-test.true)) (omega (arith, c.loop-k-test.true, c.requires, c.loop-k.auto.samples)) c.loop-k.invariant
    (omega (arith, c.from.ensures, c.from-in-loop-k.ensures))

pub returns-clause-samples : goal.returns-clause-samples
returns-clause-samples c =
    ap (λ n. take n c.loop-k.samples) (omega (arith, c.loop-k-test.false, c.loop-k.auto.k-end)) ∙ c.loop-k.invariant
    ∙ ap (λ n. samples_in true (take (2 * n) c.args.bytes.now)) (omega (arith, c.loop-k-test.false, c.loop-k.auto.k-end)) ∙ wide_all c.args.bytes.now
