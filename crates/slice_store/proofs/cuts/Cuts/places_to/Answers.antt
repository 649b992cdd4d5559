use Rattle.std.proofs.Common.{◌+◌, ◌*◌, ◌^◌, ◌≤◌, arith}
use Rattle.slice_store.proofs.Sums.{area_most, places_most}
use Rattle.slice_store.proofs.cuts.Cuts.places_to.Goals as goal

pub overflow_mul-sum : goal.overflow_mul-sum
overflow_mul-sum c =
    let most : c.wide.result * c.tall.result ≤ 2 ^ 26 =
    rw (c.wide.ensures, c.tall.ensures) (area_most c.args.self.now.slicing c.args.self.now.size c.rules.ensures 0 c.args.sx c.args.sy (omega (arith, c.requires.across)) (omega (arith, c.requires.down))) in
    omega (arith, most)

pub overflow_mul-sum-in-loop-l : goal.overflow_mul-sum-in-loop-l
overflow_mul-sum-in-loop-l c =
    let most : c.wide-in-loop-l.result * c.tall-in-loop-l.result ≤ 2 ^ 26 =
    rw (c.wide-in-loop-l.ensures, c.tall-in-loop-l.ensures) (area_most c.args.self.now.slicing c.args.self.now.size c.rules.ensures (c.loop-l.l + 1) c.args.sx c.args.sy (omega (arith, c.requires.across)) (omega (arith, c.requires.down))) in
    omega (arith, most)

pub overflow_mul-sum-in-loop-l-2 : goal.overflow_mul-sum-in-loop-l-2
overflow_mul-sum-in-loop-l-2 c =
    let most : c.wide-in-loop-l.result * c.tall-in-loop-l.result ≤ 2 ^ 26 =
    rw (c.wide-in-loop-l.ensures, c.tall-in-loop-l.ensures) (area_most c.args.self.now.slicing c.args.self.now.size c.rules.ensures (c.loop-l.l + 1) c.args.sx c.args.sy (omega (arith, c.requires.across)) (omega (arith, c.requires.down))) in
    omega (arith, most)

pub overflow_add-sum : goal.overflow_add-sum
overflow_add-sum c =
    let most : c.wide-in-loop-l.result * c.tall-in-loop-l.result ≤ 2 ^ 26 =
    rw (c.wide-in-loop-l.ensures, c.tall-in-loop-l.ensures) (area_most c.args.self.now.slicing c.args.self.now.size c.rules.ensures (c.loop-l.l + 1) c.args.sx c.args.sy (omega (arith, c.requires.across)) (omega (arith, c.requires.down))) in
    let sum : c.loop-l.sum ≤ (1 + 3 * c.loop-l.l) * 2 ^ 26 =
    rw c.loop-l.invariant (places_most c.args.self.now.slicing c.args.self.now.size c.rules.ensures c.loop-l.l c.args.sx c.args.sy (omega (arith, c.requires.across)) (omega (arith, c.requires.down))) in
    let few : c.loop-l.l ≤ 4 = omega (arith, c.loop-l-test.true, c.requires.level, c.rules.ensures.depth) in
    omega (arith, most, sum, few)

pub returns-clause-most : goal.returns-clause-most
returns-clause-most c =
    let sum : c.loop-l.sum ≤ (1 + 3 * c.loop-l.l) * 2 ^ 26 =
    rw c.loop-l.invariant (places_most c.args.self.now.slicing c.args.self.now.size c.rules.ensures c.loop-l.l c.args.sx c.args.sy (omega (arith, c.requires.across)) (omega (arith, c.requires.down))) in
    omega (arith, sum, c.loop-l.auto.l-end, c.requires.level, c.rules.ensures.depth)
