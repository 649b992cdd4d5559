use Rattle.std.proofs.Common.{◌≡◌, ◌<◌, ◌+◌, true, ◌&&◌, ltb, subst, sym, take}
use Rattle.std.specs.List.{All}
use Rattle.std.proofs.lemmas.List.{take_all}
use Rattle.raw_video.proofs.SampleLaws.{all_more}
use Rattle.raw_video.proofs.parsing.all_below.Goals as goal

pub loop-v-preserved : goal.loop-v-preserved
loop-v-preserved c =
    subst (λ n. (c.loop-v.below && ltb n c.args.bound) ≡ true → All (λ v. v < c.args.bound) (take (c.loop-v.v-index + 1) c.args.samples.now)) (sym c.from.ensures)
    (all_more c.loop-v.below c.args.bound c.args.samples.now c.loop-v.v-index c.loop-v-test.true c.loop-v.invariant)

pub returns : goal.returns
returns c = λ e. subst (λ l. All (λ v. v < c.args.bound) l) (take_all c.loop-v.v-index c.args.samples.now c.loop-v-test.false) (c.loop-v.invariant e)
