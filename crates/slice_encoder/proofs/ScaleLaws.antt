-- A product and a shift in place of a division.
use Rattle.std.proofs.Common.{◌≡◌, ◌∙◌, ℕ, ◌+◌, ◌*◌, ◌/◌, ◌^◌, ◌<◌, ◌≤◌, get_or, refl, sym, ap, arith}
use Rattle.std.proofs.Math.Dec.{leb, leb→le}
use Rattle.std.proofs.Math.Nat.{mul-le-mul_left, mul_assoc, mul-div_cancel_left, div-div-eq-div-mul}
use Rattle.std.proofs.lemmas.Nat.{pow-add, pow_pos}
use Rattle.quant_factors.specs.Factors.{factor_of}
use Rattle.quant_factors.proofs.Tables.{passed, factor_least}
use Rattle.quant_factors.proofs.Reciprocals.{product_divides}
use Rattle.slice_encoder.specs.declared.scales.Scale.{Scale}
use Rattle.slice_encoder.specs.declared.scales.TheConstants.{SCALES}
use Rattle.slice_encoder.specs.Scales.{IsScaleOf}
use Rattle.slice_encoder.proofs.QueueBits.{joined_fits}

-- ---- the table, by evaluation

number_least : (i : ℕ) → i < 128 → 2 ^ (33 + i / 4) ≤ factor_of i * get_or SCALES i 0
unfolding factor_of
number_least i lt = leb→le _ _ (passed (λ k. leb (2 ^ (33 + k / 4)) (factor_of k * get_or SCALES k 0)) 128 tt i lt)

number_most : (i : ℕ) → i < 128 → factor_of i * get_or SCALES i 0 + 1 ≤ 2 ^ (33 + i / 4) + factor_of i
unfolding factor_of
number_most i lt = leb→le _ _ (passed (λ k. leb (factor_of k * get_or SCALES k 0 + 1) (2 ^ (33 + k / 4) + factor_of k)) 128 tt i lt)

factor_below : (i : ℕ) → i < 128 → factor_of i ≤ 2 ^ (3 + i / 4)
unfolding factor_of
factor_below i lt = leb→le _ _ (passed (λ k. leb (factor_of k) (2 ^ (3 + k / 4))) 128 tt i lt)

pub number_is : (i : ℕ) → i ≤ 127 → IsScaleOf (record { number = get_or SCALES i 0; shift = 31 + i / 4 }) i
number_is i le = record { shift = refl; least = number_least i (omega (arith, le)); most = omega (arith, number_most i (omega (arith, le))) }

-- ---- what it computes

-- a product by a number over a power of two, four times both
shifted : (m n k : ℕ) → m * n / 2 ^ k ≡ 4 * m * n / 2 ^ (2 + k)
shifted m n k =
    sym
    (ap (λ (d : ℕ). 4 * m * n / d) (pow-add 2 2 k)
    ∙ ap (λ (a : ℕ). a / (4 * 2 ^ k)) (mul_assoc 4 m n)
    ∙ sym (div-div-eq-div-mul (4 * (m * n)) 4 (2 ^ k))
    ∙ ap (λ (a : ℕ). a / 2 ^ k) (mul-div_cancel_left (m * n) {n = 4} (omega arith)))

pub scaled_is : (m i : ℕ) (s : Scale) → i ≤ 127 → m < 2 ^ 28 → IsScaleOf s i → m * s.number / 2 ^ s.shift ≡ 4 * m / factor_of i
scaled_is m i s le small is =
    let lt : i < 128 = omega (arith, le) in
    let f = factor_of i in
    let q : ℕ = i / 4 in
    let up : 2 + (31 + q) ≡ 33 + q = omega arith in
    let split : 30 + (3 + q) ≡ 33 + q = omega arith in
    let few : 4 * m * f < 2 ^ (33 + q) =
    omega (arith, mul-le-mul_left (4 * m) (factor_below i lt), joined_fits 30 (3 + q) (4 * m) 0 (omega (arith, small)) (pow_pos (3 + q)), ap (λ (k : ℕ). 2 ^ k) split)
    in
    ap (λ (k : ℕ). m * s.number / 2 ^ k) is.shift
    ∙ shifted m s.number (31 + q)
    ∙ ap (λ (k : ℕ). 4 * m * s.number / 2 ^ k) up
    ∙ product_divides (2 ^ (33 + q)) (4 * m) f s.number (omega (arith, factor_least i lt)) is.least (omega (arith, is.most)) few
