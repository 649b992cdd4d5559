use Rattle.std.proofs.Common.{◌≡◌, ◌*◌, ◌≤◌, ℤ, to_z, of_z, w16, unsigned_abs, sym, ap, ◌∙◌, arith}
use Rattle.std.proofs.Math.Nat.{mul-le-mul_right}
use Rattle.std.proofs.lemmas.Int.{to_z-of_z}
use Rattle.quant_factors.specs.Factors.{signed}
use Rattle.quant_factors.proofs.QuantLemmas.{inverse-signed}
use Rattle.slice_decoder.specs.Steps.{restored_by}
use Rattle.slice_decoder.proofs.short_restoring.restore_one.Goals as goal

pub restored-requires : goal.restored-requires
restored-requires c =
    let s = c.args.step in
    let le : c.min-held.result ≤ s.limit = omega (arith, c.min-held.ensures) in
    let product : c.min-held.result * s.factor ≤ s.limit * s.factor = mul-le-mul_right s.factor le in
    omega (arith, product, c.requires)

pub returns : goal.returns
returns c index step low =
    let v = c.args.v in
    let s = c.args.step in
    let same : to_z w16 (of_z w16 v) ≡ v = to_z-of_z w16 v c.ranges.v in
    let magnitude : c.unsigned_abs.result ≡ unsigned_abs v = c.unsigned_abs.ensures.value ∙ ap unsigned_abs same in
    let held : c.min-held.result ≡ unsigned_abs v = omega (arith, c.min-held.ensures, magnitude, low) in
    to_z-of_z w16 c.with_sign.result (record { sfits = c.with_sign.type_inv }) ∙ c.with_sign.ensures ∙ ap (λ (z : ℤ). signed z c.restored.result) same
    ∙ ap (signed v) (c.restored.ensures.value ∙ ap (restored_by s.factor s.add) held ∙ step.same (unsigned_abs v) low) ∙ sym (inverse-signed v index)
