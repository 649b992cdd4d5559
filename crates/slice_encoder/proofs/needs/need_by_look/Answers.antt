use Rattle.std.proofs.Common.{◌≡◌, ◌∙◌, ◌+◌, ◌<◌, ◌∷◌, [], sym, ap, length, arith, ℤ, to_z, of_z, w32}
use Rattle.std.proofs.lemmas.Int.{ints, to_z-of_z}
use Rattle.bounded_blocks.specs.Parts.{IsSmall}
use Rattle.bounded_blocks.specs.Writing.{codes_of, need}
use Rattle.slice_encoder.proofs.LookLaws.{need_of_none, need_of_some}
use Rattle.slice_encoder.proofs.needs.need_by_look.Goals as goal

pub returns-then-look-eq0 : goal.returns-then-look-eq0
returns-then-look-eq0 c = λ behind look last. c.need_of_values.ensures ∙ sym (need_of_none c.args.front.now behind c.args.look look c.if-look-eq0.true)

pub returns : goal.returns
returns c = λ behind look last.
    let a = c.args in
    let v : ℤ = a.last in
    let some : 0 < a.look.last = omega (arith, c.if-look-eq0.false) in
    let small : IsSmall v = omega (arith, ints, c.ranges.last.sfits) in
    let told : to_z w32 (of_z w32 v) ≡ v = to_z-of_z w32 v c.ranges.last in
    let ones_are : c.bits_not_needed.result + need (v ∷ []) ≡ length (codes_of (v ∷ [])) =
    omega (arith, c.bits_not_needed.ensures, ap (λ (z : ℤ). need (z ∷ [])) told, ap (λ (z : ℤ). length (codes_of (z ∷ []))) told)
    in
    omega (arith, c.saturating_sub.ensures, c.total_length.ensures.length, c.reach.ensures, need_of_some a.front.now behind a.look look v some (last some) small c.bits_not_needed.result ones_are)
