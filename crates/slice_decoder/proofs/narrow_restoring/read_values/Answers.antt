use Rattle.std.proofs.Common.{◌≡◌, ℕ, ◌+◌, ◌*◌, ◌^◌, ◌<◌, List, length, take, get_or, ℤ, pos, sym, ap, subst, ◌∙◌, arith}
use Rattle.std.proofs.lemmas.List.{length-take-le, get_or_append_left}
use Rattle.bounded_blocks.specs.Parts.{AreWithin}
use Rattle.slice_decoder.specs.Dealing.{dealt}
use Rattle.slice_decoder.specs.Jobs.{part_in}
use Rattle.slice_decoder.specs.Components.{Part, quantisers_before}
use Rattle.slice_decoder.specs.Restored.{restored_at, StayWithin}
use Rattle.slice_decoder.proofs.Restores.{count_is, dealt-at, within-at, stay-same, wide-dealt}
use Rattle.slice_decoder.proofs.narrow_restoring.read_values.Goals as goal

pub returns-then-not-narrow_values-clause-within : goal.returns-then-not-narrow_values-clause-within
returns-then-not-narrow_values-clause-within c =
    let part : Part = part_in c.args.job in
    wide-dealt (2 ^ 18) c.args.each part c.args.count (3 * c.args.job.layout.now.depth + 1) c.args.block.now c.requires.job.qindex
    (count_is c.args.each part c.args.count c.requires.count)
    (λ all. absurd (let yes = c.narrow_values.ensures.within.1 all in cc))

pub restore_block-requires-clause-narrow : goal.restore_block-requires-clause-narrow
restore_block-requires-clause-narrow c k =
    let good = c.if-not-narrow_values.false in
    within-at (2 ^ 18) _ k (subst (AreWithin (2 ^ 18)) (sym (c.narrow_values.ensures.read good)) (c.narrow_values.ensures.within.0 good))

pub returns-clause-within : goal.returns-clause-within
returns-clause-within c =
    let part : Part = part_in c.args.job in
    let qs = quantisers_before c.args.each part (3 * c.args.job.layout.now.depth + 1) in
    let n = c.args.count in
    let out = c.narrow_values.new.out in
    let read = c.narrow_values.ensures.read c.if-not-narrow_values.false in
    let long : length (take n out) ≡ n = length-take-le n out (omega (arith, c.narrow_values.auto.out, c.requires.room)) in
    stay-same (2 ^ 18) c.restore_block.result (restored_at (take n out) qs) (λ k. get_or (dealt c.args.block.now qs) k (pos 0)) n
    (λ k lt. ap (λ (vs : List ℤ). restored_at vs qs k) read ∙ dealt-at c.args.block.now qs n k (count_is c.args.each part n c.requires.count) lt)
    (subst (λ (m : ℕ). StayWithin (2 ^ 18) c.restore_block.result (restored_at (take n out) qs) 0 m) long c.restore_block.ensures.within)

pub returns-clause-values : goal.returns-clause-values
returns-clause-values c good k lt =
    let part : Part = part_in c.args.job in
    let qs = quantisers_before c.args.each part (3 * c.args.job.layout.now.depth + 1) in
    let n = c.args.count in
    let out = c.narrow_values.new.out in
    let read = c.narrow_values.ensures.read c.if-not-narrow_values.false in
    let inside : k < length (take n out) = omega (arith, lt, length-take-le n out (omega (arith, c.narrow_values.auto.out, c.requires.room))) in
    get_or_append_left c.restore_block.new.values _ (pos 0) k (omega (arith, inside, c.restore_block.auto.values))
    ∙ c.restore_block.ensures.values good k inside
    ∙ ap (λ (vs : List ℤ). restored_at vs qs k) read
    ∙ dealt-at c.args.block.now qs n k (count_is c.args.each part n c.requires.count) lt
