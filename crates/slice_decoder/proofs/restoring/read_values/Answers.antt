use Rattle.std.proofs.Common.{◌≡◌, ℕ, ◌+◌, ◌*◌, ◌^◌, List, length, sym, ap, subst, ◌∙◌, ℤ, arith}
use Rattle.slice_decoder.specs.Jobs.{part_in}
use Rattle.slice_decoder.specs.Components.{Part, quantisers_before}
use Rattle.slice_decoder.specs.Restored.{restored_at, StayWithin}
use Rattle.slice_decoder.proofs.Restores.{count_is, huge-dealt, stay-dealt, dealt-at}
use Rattle.slice_decoder.proofs.restoring.read_values.Goals as goal

pub returns-then-not-fill-clause-small : goal.returns-then-not-fill-clause-small
returns-then-not-fill-clause-small c =
    let part : Part = part_in c.args.job in
    huge-dealt c.args.each part (length c.args.values.now) (3 * c.args.job.layout.now.depth + 1) c.args.block.now c.requires.job.qindex (count_is c.args.each part (length c.args.values.now) c.requires.count) (c.fill.ensures.huge c.if-not-fill.true)

pub returns-clause-small : goal.returns-clause-small
returns-clause-small c =
    let part : Part = part_in c.args.job in
    let n = length c.args.values.now in
    let read = c.fill.ensures.filled c.if-not-fill.false in
    stay-dealt c.args.block.now (quantisers_before c.args.each part (3 * c.args.job.layout.now.depth + 1)) c.fill.new.out n c.restore_block.result (count_is c.args.each part n c.requires.count) read.same
    (let stay : StayWithin (2 ^ 36) c.restore_block.result (restored_at c.fill.new.out (quantisers_before c.args.each part (3 * c.args.job.layout.now.depth + 1)))
    0 (length c.fill.new.out) = c.restore_block.ensures.small in
    let long : length c.fill.new.out ≡ length c.args.values.now = c.fill.auto.out in
    subst (λ (m : ℕ). StayWithin (2 ^ 36) c.restore_block.result
    (restored_at c.fill.new.out (quantisers_before c.args.each part (3 * c.args.job.layout.now.depth + 1))) 0 m) long stay)

pub returns-clause-values : goal.returns-clause-values
returns-clause-values c good k lt =
    let part : Part = part_in c.args.job in
    let n = length c.args.values.now in
    let qs = quantisers_before c.args.each part (3 * c.args.job.layout.now.depth + 1) in
    let read = c.fill.ensures.filled c.if-not-fill.false in
    c.restore_block.ensures.values good k (omega (arith, lt, c.fill.auto.out))
    ∙ ap (λ (vs : List ℤ). restored_at vs (quantisers_before c.args.each part (3 * c.args.job.layout.now.depth + 1)) k) (sym read.same)
    ∙ dealt-at c.args.block.now (quantisers_before c.args.each part (3 * c.args.job.layout.now.depth + 1)) n k (count_is c.args.each part n c.requires.count) lt
