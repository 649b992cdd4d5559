use Rattle.std.proofs.Common.{◌+◌, ◌*◌, ◌^◌, ◌≤◌, arith}
use Rattle.slice_store.proofs.Rooms.{strip_most}
use Rattle.slice_store.proofs.cuts.strip_room.Goals as goal

pub overflow_add-sum : goal.overflow_add-sum
overflow_add-sum c =
    let allowed = c.depth-level-end.ensures.allowed in
    let most : c.loop-level.sum ≤ (1 + 3 * c.loop-level.level) * 2 ^ 26 = rw c.loop-level.invariant (strip_most c.args.layout c.args.size c.loop-level.level allowed.depth c.requires allowed.slices.some_down) in
    omega (arith, most, c.part_room.ensures.most, c.loop-level-test.true, c.depth-level-end.ensures.value, allowed.depth)

pub returns-clause-most : goal.returns-clause-most
returns-clause-most c =
    let allowed = c.depth-level-end.ensures.allowed in
    let most : c.loop-level.sum ≤ (1 + 3 * c.loop-level.level) * 2 ^ 26 = rw c.loop-level.invariant (strip_most c.args.layout c.args.size c.loop-level.level allowed.depth c.requires allowed.slices.some_down) in
    omega (arith, most, c.loop-level.auto.level-end, c.depth-level-end.ensures.value, allowed.depth)
