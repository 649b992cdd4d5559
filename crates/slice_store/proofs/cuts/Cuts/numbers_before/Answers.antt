use Rattle.std.proofs.Common.{◌≡◌, ap, ◌∙◌, ℕ, ◌+◌, ◌*◌, ◌^◌, ◌≤◌, arith}
use Rattle.slice_store.proofs.Sums.{in_front, all_in_front, in_front_most, piece_most}
use Rattle.slice_store.proofs.cuts.Cuts.numbers_before.Goals as goal

pub overflow_mul-sum-in-loop-level : goal.overflow_mul-sum-in-loop-level
overflow_mul-sum-in-loop-level c =
    let most : c.left-in-loop-level.result * c.tall-in-loop-level.result ≤ 2 ^ 26 =
    rw (c.left-in-loop-level.ensures, c.tall-in-loop-level.ensures) (piece_most c.args.self.now.slicing c.args.self.now.size c.rules.ensures (c.loop-level.level + 1) c.args.sx c.args.sy c.requires.across (omega (arith, c.requires.down))) in
    omega (arith, most)

pub overflow_mul-sum-in-loop-level-2 : goal.overflow_mul-sum-in-loop-level-2
overflow_mul-sum-in-loop-level-2 c =
    let most : c.left-in-loop-level.result * c.tall-in-loop-level.result ≤ 2 ^ 26 =
    rw (c.left-in-loop-level.ensures, c.tall-in-loop-level.ensures) (piece_most c.args.self.now.slicing c.args.self.now.size c.rules.ensures (c.loop-level.level + 1) c.args.sx c.args.sy c.requires.across (omega (arith, c.requires.down))) in
    omega (arith, most)

pub overflow_add-sum : goal.overflow_add-sum
overflow_add-sum c =
    let most : c.left-in-loop-level.result * c.tall-in-loop-level.result ≤ 2 ^ 26 =
    rw (c.left-in-loop-level.ensures, c.tall-in-loop-level.ensures) (piece_most c.args.self.now.slicing c.args.self.now.size c.rules.ensures (c.loop-level.level + 1) c.args.sx c.args.sy c.requires.across (omega (arith, c.requires.down))) in
    let sum : c.loop-level.sum ≤ (1 + 3 * c.loop-level.level) * 2 ^ 26 =
    rw c.loop-level.invariant (in_front_most c.args.self.now.slicing c.args.self.now.size c.rules.ensures c.loop-level.level c.args.sx c.args.sy c.requires.across (omega (arith, c.requires.down))) in
    let few : c.loop-level.level ≤ 4 = omega (arith, c.loop-level-test.true, c.depth-level-end.ensures, c.rules.ensures.depth) in
    omega (arith, most, sum, few)

pub returns-clause-value : goal.returns-clause-value
returns-clause-value c =
    let s = c.args.self.now in
    let end : c.loop-level.level ≡ s.slicing.depth = omega (arith, c.loop-level-test.false, c.loop-level.auto.level-end, c.depth-level-end.ensures) in
    c.loop-level.invariant ∙ ap (λ (n : ℕ). in_front s.slicing s.size n c.args.sx c.args.sy) end ∙ all_in_front s.slicing s.size c.args.sx c.args.sy c.rules.ensures.slices.some_across

pub returns-clause-most : goal.returns-clause-most
returns-clause-most c =
    let s = c.args.self.now in
    let end : c.loop-level.level ≡ s.slicing.depth = omega (arith, c.loop-level-test.false, c.loop-level.auto.level-end, c.depth-level-end.ensures) in
    let sum : c.loop-level.sum ≤ (1 + 3 * c.loop-level.level) * 2 ^ 26 =
    rw c.loop-level.invariant (in_front_most s.slicing s.size c.rules.ensures c.loop-level.level c.args.sx c.args.sy c.requires.across (omega (arith, c.requires.down))) in
    omega (arith, sum, end, c.rules.ensures.depth)
