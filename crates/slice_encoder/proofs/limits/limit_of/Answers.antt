use Rattle.std.proofs.Common.{◌≡◌, ◌∙◌, ℕ, ◌-◌, ◌*◌, ◌/◌, ◌%◌, ◌^◌, ◌≤◌, min, pos, ap, arith}
use Rattle.std.proofs.Math.Nat.{mul-le-mul_right, one-le-mul}
use Rattle.std.proofs.Math.Pow.{pow_mono}
use Rattle.slice_encoder.specs.Limits.{limit_at}
use Rattle.slice_encoder.proofs.limits.limit_of.Goals as goal

-- a power in 64 bits
power_is : (k : ℕ) → 1 ≤ k → k ≤ 27 → (1 * 2 ^ k % 18446744073709551616 ≡ 2 ^ k) × (2 ≤ 2 ^ k) × (2 ^ k ≤ 2 ^ 27)
power_is k some most =
    let low : 2 ^ 1 ≤ 2 ^ k = pow_mono {i = 1} {j = k} some in
    let high : 2 ^ k ≤ 2 ^ 27 = pow_mono {i = k} {j = 27} most in
    (omega (arith, high), omega (arith, low), high)

pub overflow_mul-limit : goal.overflow_mul-limit
overflow_mul-limit g c =
    let p = power_is c.args.k c.requires.some c.requires.most in
    let one : ℕ = 1 * 2 ^ c.args.k % 18446744073709551616 - 1 in
    record { fits = omega (arith, c.factor.ensures.most, mul-le-mul_right {m = one} {n = 2 ^ 27} c.factor.result (omega (arith, p.0, p.2))) }

pub overflow_sub-limit-2 : goal.overflow_sub-limit-2
overflow_sub-limit-2 g c =
    let p = power_is c.args.k c.requires.some c.requires.most in
    let one : ℕ = 1 * 2 ^ c.args.k % 18446744073709551616 - 1 in
    one-le-mul {a = one} {b = c.factor.result} (omega (arith, p.0, p.1)) (omega (arith, c.factor.ensures.least))

pub returns : goal.returns
returns g c =
    let p = power_is c.args.k c.requires.some c.requires.most in
    let limit : ℕ = ((1 * 2 ^ c.args.k % 18446744073709551616 - 1) * c.factor.result - 1) / 4 in
    let is : limit ≡ limit_at c.args.k c.args.index = ap (λ (n : ℕ). ((n - 1) * c.factor.result - 1) / 4) p.0 ∙ ap (λ (n : ℕ). ((2 ^ c.args.k - 1) * n - 1) / 4) c.factor.ensures.value in
    let cut : min c.min.result g.T.Magnitude.greatest ≡ min (limit_at c.args.k c.args.index) g.T.Magnitude.greatest = omega (arith, is, c.min.ensures, g.met.T.Magnitude.greatest_law) in
    c.clipped.ensures ∙ ap pos cut
