-- Two products of 16 bits in place of a division, and rows of their numbers.
use Rattle.std.proofs.Common.{◌≡◌, ◌∙◌, sym, ap, subst, ℕ, ◌+◌, ◌-◌, ◌*◌, ◌/◌, ◌%◌, ◌^◌, ◌<◌, ◌≤◌, List, arith, inl, inr}
use Rattle.std.specs.Prelude.{slice_index}
use Rattle.std.proofs.Math.Nat.{mul-le-mul_left, mul-le-mul_right, mul-div_cancel_left, mul-div-mul_right, div-div-eq-div-mul, div-mul-le_self, lt-div-mul-add, mul_comm}
use Rattle.std.proofs.Math.Pow.{pow_mono}
use Rattle.std.proofs.lemmas.Nat.{pow-add, pow_pos}
use Rattle.std.proofs.lemmas.Bool.{cases_lt, cases_eq}
use Rattle.quant_factors.specs.Factors.{factor_of}
use Rattle.quant_factors.proofs.Reciprocals.{product_divides}
use Rattle.slice_encoder.specs.declared.limits.RowKey.{RowKey}
use Rattle.slice_encoder.specs.Limits.{quantiser_in, IsCut}
use Rattle.slice_encoder.specs.ScaleRows.{Divides, AreScales, short_quotient}
use Rattle.slice_encoder.proofs.Cuts.{cut_rises}

-- a power of two below 2^15, and what is left of 2^16
power_part : (d : ℕ) → 2 ^ d < 32768 → 2 ^ d * (65536 / 2 ^ d) ≡ 65536
power_part d small = elim (cases_lt 15 d) [
  | inl high ↦ absurd (omega (arith, small, pow_mono {i = 15} {j = d} (omega (arith, high))))
  | inr low ↦
      let split : 16 ≡ d + (16 - d) = omega (arith, low) in
      let whole : 65536 ≡ 2 ^ d * 2 ^ (16 - d) = ap (λ (k : ℕ). 2 ^ k) split ∙ pow-add 2 d (16 - d) in
      let rest : 65536 / 2 ^ d ≡ 2 ^ (16 - d) = ap (λ (n : ℕ). n / 2 ^ d) whole ∙ mul-div_cancel_left (2 ^ (16 - d)) {n = 2 ^ d} (pow_pos d) in
      ap (λ (n : ℕ). 2 ^ d * n) rest ∙ sym whole
]

-- the numbers by a power of two and a factor of twice as much at most
by_power : (f p : ℕ) → 1 ≤ p → p * (65536 / p) ≡ 65536 → p + 1 ≤ f → f ≤ 2 * p → Divides ((65536 * p + f - 1) / f) (65536 / p) f
by_power f p some part low high x lt =
    let s : ℕ = (65536 * p + f - 1) / f in
    let k : ℕ = 65536 / p in
    let q : ℕ = x * s / 65536 in
    let below : s * f ≤ 65536 * p + f - 1 = div-mul-le_self (65536 * p + f - 1) f in
    let above : 65536 * p + f - 1 < s * f + f = lt-div-mul-add {a = 65536 * p + f - 1} {b = f} (omega (arith, low)) in
    let turn : f * s ≡ s * f = mul_comm f s in
    let few : x * f < 65536 * p = omega (arith, mul-le-mul_left x high, mul-le-mul_right {m = x} {n = 32767} (2 * p) (omega (arith, lt)), some) in
    let whole : x * s / (65536 * p) ≡ x / f = product_divides (65536 * p) x f s (omega (arith, low)) (omega (arith, above, turn)) (omega (arith, below, turn, low)) few in
    let twice : q * k / 65536 ≡ q / p = ap (λ (n : ℕ). q * k / n) (sym part) ∙ mul-div-mul_right {m = k} q p (some_left part) in
    twice ∙ div-div-eq-div-mul (x * s) 65536 p ∙ whole
  where
    some_left : p * (65536 / p) ≡ 65536 → 0 < 65536 / p
    some_left e = elim (cases_lt 0 (65536 / p)) [
      | inl here ↦ here
      | inr none ↦ absurd (omega (arith, e, mul-le-mul_left p none))
    ]

pub divides : (f d : ℕ) → f ≤ 32768 → 4 ≤ f → 2 ^ d ≤ f - 1 → f - 1 < 2 * 2 ^ d → Divides ((65536 * (1 * 2 ^ d % 18446744073709551616) + f - 1) / f) (65536 / (1 * 2 ^ d % 18446744073709551616)) f
divides f d few some low high =
    let p : ℕ = 2 ^ d in
    let same : 1 * p % 18446744073709551616 ≡ p = omega (arith, low, few) in
    subst (λ (n : ℕ). Divides ((65536 * n + f - 1) / f) (65536 / n) f) (sym same)
    (by_power f p (pow_pos d) (power_part d (omega (arith, low, few, some))) (omega (arith, low, some)) (omega (arith, high)))

-- one band more has its numbers
pub scales_more : (key : RowKey) (index b from to number shift : ℕ) (numbers shifts new_numbers new_shifts : List ℕ) → IsCut key → 1 ≤ b → b ≤ key.front → from ≡ slice_index key.ends (b - 1) → to ≡ slice_index key.ends b
    → Divides number shift (factor_of (quantiser_in key index b))
    → ((p : ℕ) → from ≤ p → p < to → slice_index new_numbers p ≡ number) → ((p : ℕ) → p < from → slice_index new_numbers p ≡ slice_index numbers p)
    → ((p : ℕ) → from ≤ p → p < to → slice_index new_shifts p ≡ shift) → ((p : ℕ) → p < from → slice_index new_shifts p ≡ slice_index shifts p)
    → AreScales key index numbers shifts (b - 1) → AreScales key index new_numbers new_shifts (b + 1 - 1)
scales_more key index b from to number shift numbers shifts new_numbers new_shifts cut some most from_is to_is law number_inside number_before shift_inside shift_before so_far j p one le low high x lt = elim (cases_eq j b) [
  | inl same ↦
      let first : from ≤ p = omega (arith, low, from_is, ap (λ (n : ℕ). slice_index key.ends (n - 1)) same) in
      let last : p < to = omega (arith, high, to_is, ap (λ (n : ℕ). slice_index key.ends n) same) in
      ap (λ (n : ℕ). short_quotient n (slice_index new_shifts p) x) (number_inside p first last) ∙ ap (λ (n : ℕ). short_quotient number n x) (shift_inside p first last)
      ∙ law x lt ∙ ap (λ (n : ℕ). x / factor_of (quantiser_in key index n)) (sym same)
  | inr other ↦
      let before : p < from = omega (arith, high, from_is, cut_rises key cut j (b - 1) (omega (arith, le, other)) (omega (arith, most))) in
      ap (λ (n : ℕ). short_quotient n (slice_index new_shifts p) x) (number_before p before) ∙ ap (λ (n : ℕ). short_quotient (slice_index numbers p) n x) (shift_before p before)
      ∙ so_far j p one (omega (arith, le, other)) low high x lt
]
