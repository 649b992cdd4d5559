use Rattle.std.proofs.Common.{◌≡◌, ◌∙◌, ℕ, suc, ◌+◌, ◌*◌, ◌/◌, ◌^◌, ◌<◌, ◌≤◌, ℤ, pos, to_z, of_z, w32, w64, refl, ap, arith, inl, inr}
use Rattle.std.specs.Prelude.{unsigned_abs}
use Rattle.std.proofs.Math.Nat.{pow-suc, mul-le-mul_left, div-mul-le_self}
use Rattle.std.proofs.Math.Pow.{pow_mono}
use Rattle.std.proofs.lemmas.Bool.{cases_lt}
use Rattle.std.proofs.lemmas.Int.{to_z_pos, ints}
use Rattle.quant_factors.specs.Factors.{factor_of, forward_of}
use Rattle.quant_factors.proofs.Tables.{factor_least}
use Rattle.slice_encoder.proofs.limits.limits_asked.Goals as goal

forward_is : (m i : ℕ) → forward_of (pos m) i ≡ pos (4 * m / factor_of i)
unfolding forward_of
forward_is m i = refl

-- the quotient is no greater than the magnitude
quotient_most : (m f : ℕ) → 4 ≤ f → 4 * m / f ≤ m
quotient_most m f le =
    let q : ℕ = 4 * m / f in
    omega (arith, mul-le-mul_left q le, div-mul-le_self (4 * m) f)

greatest : (top i : ℕ) (r : ℤ) → i ≤ 127 → top ≤ 2 ^ 27 → r ≡ forward_of (pos (unsigned_abs (to_z w32 top))) i → r ≡ pos (4 * top / factor_of i)
greatest top i r le small is = is ∙ ap (λ (z : ℤ). forward_of (pos (unsigned_abs z)) i) (to_z_pos w32 top (omega (arith, small))) ∙ forward_is top i

kept : (n : ℕ) (r : ℤ) → n ≤ 2 ^ 27 → r ≡ pos n → to_z w64 (of_z w64 r) ≡ pos n
kept n r small is = ap (λ (z : ℤ). to_z w64 (of_z w64 z)) is ∙ to_z_pos w64 n (omega (arith, small))

-- digits of a number below a power
few_digits : (k n m : ℕ) → 2 ^ k ≤ m → m < 2 * 2 ^ n → k ≤ n
few_digits k n m le lt = elim (cases_lt n k) [
  | inl less ↦ absurd (omega (arith, le, lt, pow-suc 2 n, pow_mono {i = suc n} {j = k} (omega (arith, less))))
  | inr ge ↦ ge
]

pub overflow_cast-most : goal.overflow_cast-most
overflow_cast-most c =
    let a = c.args in
    let q : ℕ = 4 * a.top / factor_of a.index in
    let few : q ≤ a.top = quotient_most a.top (factor_of a.index) (factor_least a.index (omega (arith, c.requires.index))) in
    let is = kept q c.quantised_magnitude.result (omega (arith, few, c.requires.small)) (greatest a.top a.index c.quantised_magnitude.result c.requires.index c.requires.small c.quantised_magnitude.ensures) in
    rw is (omega (arith, ints), record { fits = omega (arith, few, c.requires.small) })

pub returns-clause-all : goal.returns-clause-all
returns-clause-all c =
    let a = c.args in
    let q : ℕ = 4 * a.top / factor_of a.index in
    let few : q ≤ a.top = quotient_most a.top (factor_of a.index) (factor_least a.index (omega (arith, c.requires.index))) in
    let is = kept q c.quantised_magnitude.result (omega (arith, few, c.requires.small)) (greatest a.top a.index c.quantised_magnitude.result c.requires.index c.requires.small c.quantised_magnitude.ensures) in
    let size = ap (λ (z : ℤ). unsigned_abs z) is in
    omega (arith, size, c.ilog2.ensures.next_power_gt, pow_mono {i = c.ilog2.result} {j = c.max.result} (omega (arith, c.max.ensures)))

pub returns-clause-few : goal.returns-clause-few
returns-clause-few c = λ n some lt.
    let a = c.args in
    let q : ℕ = 4 * a.top / factor_of a.index in
    let few : q ≤ a.top = quotient_most a.top (factor_of a.index) (factor_least a.index (omega (arith, c.requires.index))) in
    let is = kept q c.quantised_magnitude.result (omega (arith, few, c.requires.small)) (greatest a.top a.index c.quantised_magnitude.result c.requires.index c.requires.small c.quantised_magnitude.ensures) in
    let size = ap (λ (z : ℤ). unsigned_abs z) is in
    omega (arith, c.max.ensures, some, few_digits c.ilog2.result n (q + 1) (omega (arith, size, c.ilog2.ensures.power_le)) (omega (arith, few, lt)))
