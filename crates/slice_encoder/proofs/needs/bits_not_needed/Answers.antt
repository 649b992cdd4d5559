use Rattle.std.proofs.Common.{◌≡◌, ◌∙◌, ◌∷◌, [], ap, length, arith, ℤ, to_z, of_z, w32, w64}
use Rattle.std.proofs.lemmas.Int.{to_z-of_z}
use Rattle.bounded_blocks.specs.Writing.{codes_of, need, NeedSeen}
use Rattle.bounded_blocks.proofs.Needs.{need-most}
use Rattle.slice_encoder.proofs.needs.bits_not_needed.Goals as goal

pub overflow_sub-result : goal.overflow_sub-result
overflow_sub-result c =
    let v : ℤ = c.args.last in
    let told : to_z w64 (of_z w64 c.from.result) ≡ v = to_z-of_z w64 c.from.result (record { sfits = c.from.type_inv }) ∙ c.from.ensures ∙ to_z-of_z w32 v c.ranges.last in
    let bits : c.bits.result ≡ need (v ∷ []) = c.bits.ensures ∙ ap (λ (k : NeedSeen). k.bits) c.of.ensures ∙ ap (λ (z : ℤ). need (z ∷ [])) told in
    let all : c.total_length.result ≡ length (codes_of (v ∷ [])) = c.total_length.ensures.length ∙ ap (λ (z : ℤ). length (codes_of (z ∷ []))) told in
    omega (arith, bits, all, need-most (codes_of (v ∷ [])))

pub returns : goal.returns
returns c =
    let v : ℤ = c.args.last in
    let told : to_z w64 (of_z w64 c.from.result) ≡ v = to_z-of_z w64 c.from.result (record { sfits = c.from.type_inv }) ∙ c.from.ensures ∙ to_z-of_z w32 v c.ranges.last in
    let bits : c.bits.result ≡ need (v ∷ []) = c.bits.ensures ∙ ap (λ (k : NeedSeen). k.bits) c.of.ensures ∙ ap (λ (z : ℤ). need (z ∷ [])) told in
    let all : c.total_length.result ≡ length (codes_of (v ∷ [])) = c.total_length.ensures.length ∙ ap (λ (z : ℤ). length (codes_of (z ∷ []))) told in
    omega (arith, bits, all, need-most (codes_of (v ∷ [])))
