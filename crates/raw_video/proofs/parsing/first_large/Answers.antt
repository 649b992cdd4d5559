use Rattle.std.proofs.Common.{◌<◌, length, subst, arith, sym}
use Rattle.std.specs.List.{All}
use Rattle.std.proofs.lemmas.List.{take_all}
use Rattle.std.proofs.lemmas.List.Elements.{All-more}
use Rattle.raw_video.proofs.SampleLaws.{large_found, none-large-at}
use Rattle.raw_video.proofs.parsing.first_large.Goals as goal

pub returns-then-from-bound : goal.returns-then-from-bound
returns-then-from-bound c = large_found c.args.samples.now c.args.bound c.loop-k.k c.loop-k-test.true c.loop-k.invariant (omega (arith, c.if-from-bound.true, c.from.ensures))

pub loop-k-preserved : goal.loop-k-preserved
loop-k-preserved c = All-more (λ v. v < c.args.bound) c.args.samples.now c.loop-k.k 0 c.loop-k-test.true c.loop-k.invariant (omega (arith, c.if-from-bound.false, c.from.ensures))

pub returns : goal.returns
returns c = sym (none-large-at (length c.args.samples.now) c.args.bound c.args.samples.now (subst (λ l. All (λ v. v < c.args.bound) l) (take_all c.loop-k.k c.args.samples.now c.loop-k-test.false) c.loop-k.invariant))
