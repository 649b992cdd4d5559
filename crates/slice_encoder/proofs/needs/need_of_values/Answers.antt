use Rattle.std.proofs.Common.{◌≡◌, ◌≢◌, ◌∙◌, ℕ, ◌+◌, ◌-◌, ◌<◌, ◌∷◌, [], length, take, get_or, ap, arith, pos}
use Rattle.std.proofs.lemmas.List.Elements.{All-get_or}
use Rattle.bounded_blocks.specs.Parts.{IsSmall}
use Rattle.bounded_blocks.specs.Writing.{codes_of, need, NeedSeen}
use Rattle.bounded_blocks.proofs.Needs.{need-most}
use Rattle.bounded_blocks.proofs.CodeLengths.{length-codes_of-most}
use Rattle.slice_encoder.proofs.LastValues.{need_with, one_at}
use Rattle.slice_encoder.proofs.needs.need_of_values.Goals as goal

pub returns : goal.returns
returns c =
    let vs = c.args.values.now in
    let count = c.count_to_last-count.result in
    let n : ℕ = count - 1 in
    let lt : n < length vs = omega (arith, c.if-count-eq0.false, c.count_to_last-count.ensures.most) in
    let up : n + 1 ≡ count = omega (arith, c.if-count-eq0.false) in
    let some : get_or vs n (pos 0) ≢ pos 0 = c.count_to_last-count.ensures.last (omega (arith, c.if-count-eq0.false)) in
    let end : c.bits.result ≡ need (get_or vs n (pos 0) ∷ []) = c.bits.ensures ∙ ap (λ (k : NeedSeen). k.bits) c.of.ensures ∙ ap need (one_at vs n _ lt (omega (arith, c.if-count-eq0.false))) in
    omega (
      arith,
      end,
      c.total_length-front.ensures.length,
      need_with vs n lt some (All-get_or IsSmall vs n (pos 0) lt c.requires.small),
      ap (λ (k : ℕ). need (take k vs)) up,
      c.count_to_last-count.ensures.need,
    )

pub overflow_add-result : goal.overflow_add-result
overflow_add-result c =
    let vs = c.args.values.now in
    omega (arith, returns c, need-most (codes_of vs), length-codes_of-most vs c.requires.small, c.requires.few)
