use Rattle.std.proofs.Common.{◌≡◌, ◌^◌, ◌≤◌, unsigned_abs, w64, to_z, of_z, sym, ap, ◌∙◌, arith}
use Rattle.std.proofs.lemmas.Int.{to_z-of_z}
use Rattle.quant_factors.specs.Factors.{signed, restored_of, inverse_of}
use Rattle.quant_factors.proofs.QuantLemmas.{abs-signed, abs-inverse, inverse-signed}
use Rattle.quant_factors.proofs.inverse.Goals as goal

pub returns-in-Some : goal.returns-in-Some
returns-in-Some c =
    let same : to_z w64 (of_z w64 c.args.q) ≡ c.args.q = to_z-of_z w64 c.args.q c.ranges.q in
    let kept = to_z-of_z w64 c.with_sign.result (record { sfits = c.with_sign.type_inv }) in
    let magnitude : c.unsigned_abs.result ≡ unsigned_abs c.args.q = c.unsigned_abs.ensures.value ∙ ap unsigned_abs same in
    let value : c.with_sign.result ≡ inverse_of c.args.q c.args.i =
    c.with_sign.ensures
    ∙ ap (λ z. signed z c.in-Some.magnitude) same
    ∙ ap (signed c.args.q) (c.in-Some.ensures.0 ∙ ap (λ m. restored_of m c.args.i) magnitude)
    ∙ sym (inverse-signed c.args.q c.args.i)
    in
    let small : unsigned_abs c.with_sign.result ≤ 2 ^ 36 =
    omega (arith, ap unsigned_abs c.with_sign.ensures, abs-signed (to_z w64 (of_z w64 c.args.q)) c.in-Some.magnitude, c.in-Some.ensures.1)
    in
    rw kept (value, small)

pub returns-in-None : goal.returns-in-None
returns-in-None c =
    let same : to_z w64 (of_z w64 c.args.q) ≡ c.args.q = to_z-of_z w64 c.args.q c.ranges.q in
    let magnitude : c.unsigned_abs.result ≡ unsigned_abs c.args.q = c.unsigned_abs.ensures.value ∙ ap unsigned_abs same in
    omega (arith, abs-inverse c.args.q c.args.i, ap (λ m. restored_of m c.args.i) magnitude, c.in-None.ensures)
