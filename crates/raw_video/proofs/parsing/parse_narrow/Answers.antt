use Rattle.std.proofs.Common.{◌<◌, arith}
use Rattle.std.proofs.lemmas.List.Elements.{All-more}
use Rattle.raw_video.proofs.SampleLaws.{narrow_more}
use Rattle.raw_video.proofs.parsing.parse_narrow.Goals as goal

pub loop-k-preserved : goal.loop-k-preserved
loop-k-preserved c = record {
  same = narrow_more c.args.bytes.now c.loop-k.samples c.loop-k.k c.from.result c.loop-k-test.true (omega (arith, c.loop-k-test.true, c.requires, c.loop-k.auto.samples)) c.loop-k.invariant.same c.from.ensures;
  few = All-more (λ v. v < 256) c.args.bytes.now c.loop-k.k 0 c.loop-k-test.true c.loop-k.invariant.few (omega (arith, c.from.ensures));
}
