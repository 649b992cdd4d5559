use Rattle.std.proofs.Common.{◌≡◌, ℕ, ◌+◌, ◌-◌, ◌*◌, ◌^◌, ◌<◌, List, length, take, get_or, ℤ, pos, sym, ap, subst, ◌∙◌, arith}
use Rattle.std.proofs.lemmas.List.{length-take-le, get_or_append_left}
use Rattle.slice_decoder.specs.Dealing.{dealt}
use Rattle.slice_decoder.specs.Jobs.{short_part}
use Rattle.slice_decoder.specs.Components.{Part, quantisers_before}
use Rattle.slice_decoder.specs.Restored.{restored_at, StayWithin}
use Rattle.slice_decoder.proofs.Restores.{count_is, dealt-at, stay-same, wide-dealt}
use Rattle.slice_decoder.proofs.short.read_values.Goals as goal

pub returns-then-not-short_values-clause-within : goal.returns-then-not-short_values-clause-within
returns-then-not-short_values-clause-within c =
    let part : Part = short_part c.args.job in
    wide-dealt (2 ^ 14 - 1) c.args.each part c.args.count (3 * c.args.job.layout.now.depth + 1) c.args.block.now c.requires.job.qindex
    (count_is c.args.each part c.args.count c.requires.count)
    (λ all. absurd (let yes = c.short_values.ensures.within.1 all in cc))

pub restore-requires-clause-count : goal.restore-requires-clause-count
restore-requires-clause-count c =
    let n = c.args.count in
    let out = c.short_values.new.out in
    length-take-le n out (omega (arith, c.short_values.auto.out, c.requires.room)) ∙ count_is c.args.each (short_part c.args.job) n c.requires.count
    ∙ ap length (sym c.key_of.ensures.quantisers)

pub restore-requires-clause-room : goal.restore-requires-clause-room
restore-requires-clause-room c =
    let n = c.args.count in
    let out = c.short_values.new.out in
    omega (arith, c.requires.places, length-take-le n out (omega (arith, c.short_values.auto.out, c.requires.room)))

pub returns-clause-within : goal.returns-clause-within
returns-clause-within c =
    let part : Part = short_part c.args.job in
    let qs = quantisers_before c.args.each part (3 * c.args.job.layout.now.depth + 1) in
    let n = c.args.count in
    let out = c.short_values.new.out in
    let read = c.short_values.ensures.read c.if-not-short_values.false in
    let long : length (take n out) ≡ n = length-take-le n out (omega (arith, c.short_values.auto.out, c.requires.room)) in
    let stay : StayWithin (2 ^ 14 - 1) c.restore.result (restored_at (take n out) qs) 0 (length (take n out)) =
    subst (λ (rs : List ℕ). StayWithin (2 ^ 14 - 1) c.restore.result (restored_at (take n out) rs) 0 (length (take n out))) c.key_of.ensures.quantisers c.restore.ensures.within in
    stay-same (2 ^ 14 - 1) c.restore.result (restored_at (take n out) qs) (λ k. get_or (dealt c.args.block.now qs) k (pos 0)) n
    (λ k lt. ap (λ (vs : List ℤ). restored_at vs qs k) read ∙ dealt-at c.args.block.now qs n k (count_is c.args.each part n c.requires.count) lt)
    (subst (λ (m : ℕ). StayWithin (2 ^ 14 - 1) c.restore.result (restored_at (take n out) qs) 0 m) long stay)

pub returns-clause-values : goal.returns-clause-values
returns-clause-values c good k lt =
    let part : Part = short_part c.args.job in
    let qs = quantisers_before c.args.each part (3 * c.args.job.layout.now.depth + 1) in
    let n = c.args.count in
    let out = c.short_values.new.out in
    let read = c.short_values.ensures.read c.if-not-short_values.false in
    let inside : k < length (take n out) = omega (arith, lt, length-take-le n out (omega (arith, c.short_values.auto.out, c.requires.room))) in
    get_or_append_left c.restore.new.values _ (pos 0) k (omega (arith, inside, c.restore.auto.values))
    ∙ c.restore.ensures.values good k inside
    ∙ ap (λ (rs : List ℕ). restored_at (take n out) rs k) c.key_of.ensures.quantisers
    ∙ ap (λ (vs : List ℤ). restored_at vs qs k) read
    ∙ dealt-at c.args.block.now qs n k (count_is c.args.each part n c.requires.count) lt
