use Rattle.std.proofs.Common.{◌∙◌, ℕ, ◌*◌, ◌/◌, ◌^◌, ◌<◌, ◌≤◌, get_or, ap, arith}
use Rattle.std.proofs.Math.Nat.{mul-le-mul_left}
use Rattle.quant_factors.specs.declared.TheConstants.{RECIPROCALS}
use Rattle.quant_factors.specs.Factors.{factor_of}
use Rattle.quant_factors.proofs.Tables.{factor_least, factor_most, reciprocal_least, reciprocal_most}
use Rattle.quant_factors.proofs.Reciprocals.{product_divides}
use Rattle.quant_factors.proofs.quantised.Goals as goal

pub returns-then-magnitude : goal.returns-then-magnitude
returns-then-magnitude c =
    let i = c.args.i in
    let n : ℕ = 4 * c.args.magnitude in
    let below : i < 128 = omega (arith, c.requires.index) in
    let few : n * factor_of i ≤ n * 2 ^ 34 = mul-le-mul_left n (factor_most i below) in
    ap (λ (k : ℕ). k * c.from-then-magnitude.result / 2 ^ 64) c.from.ensures
    ∙ ap (λ (k : ℕ). n * k / 2 ^ 64) c.from-then-magnitude.ensures
    ∙ product_divides (2 ^ 64) n (factor_of i) (get_or RECIPROCALS i 0) (omega (arith, factor_least i below)) (reciprocal_least i below) (reciprocal_most i below) (omega (arith, few, c.if-magnitude.true))
