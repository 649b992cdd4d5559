-- A code put together digit by digit.
use Rattle.std.proofs.Common.{◌≡◌, ◌∙◌, ap, ℕ, ◌+◌, ◌-◌, ◌*◌, ◌/◌, ◌^◌, ◌<◌, ◌≤◌, Bool, false, List, [], ◌∷◌, ◌++◌, bit_and, arith, inl, inr}
use Rattle.std.proofs.lemmas.Bool.{cases_lt}
use Rattle.std.proofs.lemmas.Nat.Bits.{bit_at-lt, shr_and_one}
use Rattle.std.proofs.Math.Nat.{pow-le-pow_right}
use Rattle.bit_codes.specs.Bits.{bit, digits_below}
use Rattle.bit_codes.specs.Codes.{interleaved, code_of}
use Rattle.bit_codes.proofs.CodeOf.{digits_below-code}
use Rattle.slice_encoder.proofs.QueueBits.{joined_fits, digits_join, zero_and_bit}

-- a number up to 2^36 has at most 36 digits below its first one
pub few_digits : (k m n : ℕ) → 2 ^ k ≤ n → n < 2 ^ (m + 1) → k ≤ m
few_digits k m n h lt =
    elim (cases_lt m k) [
      | inl more ↦ absurd (let two : 0 < 2 = omega arith in let up : m + 1 ≤ k = omega arith in omega (arith, pow-le-pow_right {n = 2} two {i = m + 1} {j = k} up))
      | inr small ↦ small
    ]

-- a text of at most 50 digits is small
pub text_small : (t k : ℕ) → t < 2 ^ k → k ≤ 51 → t < 2 ^ 51
text_small t k lt le =
    let two : 0 < 2 = omega arith in
    omega (arith, lt, pow-le-pow_right {n = 2} two {i = k} {j = 51} le)

digit_small : (n k : ℕ) → bit_and (n / 2 ^ k) 1 < 2
digit_small n k = omega (arith, shr_and_one n k, bit_at-lt n k)

-- a digit more, behind a zero
pub more_fits : (t j n k : ℕ) → t < 2 ^ (2 * j) → 4 * t + bit_and (n / 2 ^ k) 1 < 2 ^ (2 * (j + 1))
more_fits t j n k lt =
    let d : ℕ = bit_and (n / 2 ^ k) 1 in
    let next : 2 * j + 2 ≡ 2 * (j + 1) = omega arith in
    omega (arith, joined_fits (2 * j) 2 t d lt (omega (arith, digit_small n k)), ap (λ (m : ℕ). 2 ^ m) next)

pub more_digits : (t j n k : ℕ) → digits_below (2 * (j + 1)) (4 * t + bit_and (n / 2 ^ k) 1) ≡ digits_below (2 * j) t ++ (false ∷ bit n k ∷ [])
more_digits t j n k =
    let d : ℕ = bit_and (n / 2 ^ k) 1 in
    let next : 2 * (j + 1) ≡ 2 * j + 2 = omega arith in
    let turned : 4 * t + d ≡ t * 4 + d = omega arith in
    ap (λ (m : ℕ). digits_below m (4 * t + d)) next
    ∙ ap (digits_below (2 * j + 2)) turned
    ∙ digits_join (2 * j) 2 t d (omega (arith, digit_small n k))
    ∙ ap (λ (s : List Bool). digits_below (2 * j) t ++ s) (zero_and_bit n k)

-- and a single one
pub one_digit : (t k d : ℕ) → d < 2 → digits_below (k + 1) (2 * t + d) ≡ digits_below k t ++ digits_below 1 d
one_digit t k d lt =
    let turned : 2 * t + d ≡ t * 2 + d = omega arith in
    ap (digits_below (k + 1)) turned ∙ digits_join k 1 t d (omega (arith, lt))

pub digit_fits : (t k d : ℕ) → t < 2 ^ k → d < 2 → 2 * t + d < 2 ^ (k + 1)
digit_fits t k d small lt = omega (arith, joined_fits k 1 t d small (omega (arith, lt)))

-- A code is the text of its first digits, and behind it that of the others and the one at its end.
pub split_code : (n k low f b : ℕ) → k ≤ 64 → 2 ^ k ≤ n + 1 → n + 1 < 2 * 2 ^ k
    → digits_below (2 * (k - low)) f ++ interleaved (digits_below low (n + 1)) ≡ interleaved (digits_below k (n + 1))
    → digits_below (2 * (low - 0)) b ++ interleaved (digits_below 0 (n + 1)) ≡ interleaved (digits_below low (n + 1))
    → digits_below (2 * (k - low)) f ++ digits_below (2 * low + 1) (2 * b + 1) ≡ code_of n
split_code n k low f b few least most front back =
    let whole : low ≡ low - 0 = omega arith in
    ap (λ (t : List Bool). digits_below (2 * (k - low)) f ++ t)
    (one_digit b (2 * low) 1 (omega arith) ∙ ap (λ (j : ℕ). digits_below (2 * j) b ++ digits_below 1 1) whole ∙ back)
    ∙ front
    ∙ digits_below-code k n least most few
