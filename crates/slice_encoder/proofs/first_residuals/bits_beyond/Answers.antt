use Rattle.std.proofs.Common.{◌≡◌, ◌∙◌, length, ap, arith, ℤ, to_z, of_z, w64}
use Rattle.std.proofs.lemmas.Int.{to_z-of_z}
use Rattle.bit_codes.specs.Codes.{signed_code_of}
use Rattle.quant_factors.specs.Factors.{forward_of}
use Rattle.slice_encoder.proofs.CountedBits.{one_code-most}
use Rattle.slice_encoder.proofs.PlaceByPlace.{forward_small}
use Rattle.slice_encoder.proofs.Reaches.{code_some}
use Rattle.slice_encoder.proofs.first_residuals.bits_beyond.Goals as goal

pub sint_len-requires : goal.sint_len-requires
sint_len-requires c =
    let r : ℤ = c.args.residual in
    let kept : to_z w64 (of_z w64 c.forward.result) ≡ c.forward.result = to_z-of_z w64 c.forward.result (record { sfits = c.forward.type_inv }) in
    let given : to_z w64 (of_z w64 r) ≡ r = to_z-of_z w64 r c.ranges.residual in
    let value : c.forward.result ≡ forward_of r c.args.quantiser = c.forward.ensures ∙ ap (λ v. forward_of v c.args.quantiser) given in
    rw (kept, value) (omega (arith, forward_small r c.args.quantiser c.requires.index, c.requires.small))

pub overflow_sub-result : goal.overflow_sub-result
overflow_sub-result c = omega (arith, c.from.ensures, c.sint_len.ensures, code_some (to_z w64 (of_z w64 c.forward.result)))

pub returns-clause-few : goal.returns-clause-few
returns-clause-few c =
    let r : ℤ = c.args.residual in
    let kept : to_z w64 (of_z w64 c.forward.result) ≡ c.forward.result = to_z-of_z w64 c.forward.result (record { sfits = c.forward.type_inv }) in
    let given : to_z w64 (of_z w64 r) ≡ r = to_z-of_z w64 r c.ranges.residual in
    let value : c.forward.result ≡ forward_of r c.args.quantiser = c.forward.ensures ∙ ap (λ v. forward_of v c.args.quantiser) given in
    let all : to_z w64 (of_z w64 c.forward.result) ≡ forward_of r c.args.quantiser = kept ∙ value in
    let few = one_code-most (forward_of r c.args.quantiser) (omega (arith, forward_small r c.args.quantiser c.requires.index, c.requires.small)) in
    omega (arith, c.from.ensures, c.sint_len.ensures, ap (λ (v : ℤ). length (signed_code_of v)) all, few)
