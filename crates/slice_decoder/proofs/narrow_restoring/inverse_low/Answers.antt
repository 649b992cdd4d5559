use Rattle.std.proofs.Common.{◌≡◌, ℕ, ◌*◌, ◌^◌, ◌≤◌, ℤ, to_z, of_z, w32, unsigned_abs, sym, ap, subst, ◌∙◌, arith}
use Rattle.std.proofs.lemmas.Int.{to_z-of_z}
use Rattle.quant_factors.specs.Factors.{factor_of, signed, restored_of}
use Rattle.quant_factors.proofs.QuantLemmas.{inverse-signed}
use Rattle.slice_decoder.proofs.Restores.{low_product}
use Rattle.slice_decoder.proofs.narrow_restoring.inverse_low.Goals as goal

pub restored-requires-clause-low : goal.restored-requires-clause-low
restored-requires-clause-low c =
    let q = c.args.q in
    let magnitude : c.unsigned_abs.result ≡ unsigned_abs q = c.unsigned_abs.ensures.value ∙ ap unsigned_abs (to_z-of_z w32 q c.ranges.q) in
    subst (λ (m : ℕ). m * factor_of c.args.index ≤ 2 ^ 20) (sym magnitude) (omega (arith, low_product (unsigned_abs q) c.args.index c.requires.low))

pub returns : goal.returns
returns c =
    let q = c.args.q in
    let i = c.args.index in
    let same : to_z w32 (of_z w32 q) ≡ q = to_z-of_z w32 q c.ranges.q in
    let magnitude : c.unsigned_abs.result ≡ unsigned_abs q = c.unsigned_abs.ensures.value ∙ ap unsigned_abs same in
    to_z-of_z w32 c.with_sign.result (record { sfits = c.with_sign.type_inv }) ∙ c.with_sign.ensures ∙ ap (λ (z : ℤ). signed z c.restored.result) same
    ∙ ap (signed q) (c.restored.ensures.value ∙ ap (λ (n : ℕ). restored_of n i) magnitude) ∙ sym (inverse-signed q i)
