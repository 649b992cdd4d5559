use Rattle.std.proofs.Common.{arith}
use Rattle.picture_codec.proofs.short_slices.most_places.Goals as goal

pub overflow_add-sum : goal.overflow_add-sum
overflow_add-sum c =
    let allowed = c.depth-level-end.ensures.allowed in
    omega (arith, c.loop-level.invariant, c.most_in_band.ensures, c.loop-level-test.true, c.depth-level-end.ensures.value, allowed.depth)

pub returns : goal.returns
returns c =
    let allowed = c.depth-level-end.ensures.allowed in
    omega (arith, c.loop-level.invariant, c.loop-level.auto.level-end, c.depth-level-end.ensures.value, allowed.depth)
