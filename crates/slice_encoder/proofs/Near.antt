-- How near a coefficient the value is that a reader restores.
use Rattle.std.proofs.Common.{◌≡◌, ◌≢◌, ◌∙◌, sym, ap, subst, refl, ℕ, zero, suc, ◌+◌, ◌*◌, ◌/◌, ◌≤◌, List, length, get_or, arith, inl, inr, ℤ, pos, negsuc, ◌+ℤ◌, ◌-ℤ◌, ◌^◌, to_z, of_z, w32}
use Rattle.std.specs.Prelude.{◌⊎◌, unsigned_abs}
use Rattle.std.specs.List.{All}
use Rattle.std.proofs.lemmas.Int.{ints}
use Rattle.std.proofs.lemmas.Bool.{cases_lt}
use Rattle.std.proofs.lemmas.List.{get_or_past}
use Rattle.std.proofs.lemmas.List.Elements.{All-get_or}
use Rattle.planes.specs.Numbers.{Within}
use Rattle.dc_prediction.specs.Prediction.{prediction}
use Rattle.quant_factors.specs.Factors.{restored_of, inverse_of, forward_of}
use Rattle.quant_factors.proofs.QuantLemmas.{error_small}
use Rattle.quant_factors.specs.Weights.{band_quantiser}
use Rattle.slice_encoder.specs.Loop.{restored_value}
use Rattle.slice_encoder.specs.Trials.{coefficient, slice_holding, restored_after}
use Rattle.slice_encoder.specs.TrialLaws.{IsIndex, RestoredStaysNear}
use Rattle.slice_encoder.proofs.Made.{made_within, prediction_within}

pub within_abs : (m : ℕ) (z : ℤ) → Within m z → unsigned_abs z ≤ m
within_abs m (pos n) p = omega (arith, ints)
within_abs m (negsuc n) p = omega (arith, ints)

pub abs_within : (m : ℕ) (z : ℤ) → unsigned_abs z ≤ m → Within m z
abs_within m (pos n) h = record { low = omega (arith, ints); high = omega (arith, ints) }
abs_within m (negsuc n) h = record { low = omega (arith, ints); high = omega (arith, ints) }

pub inverse-zero : (q : ℕ) → inverse_of (pos 0) q ≡ pos 0
unfolding inverse_of restored_of
inverse-zero q = refl

is_zero_or_not : (z : ℤ) → (z ≡ pos 0) ⊎ (z ≢ pos 0)
is_zero_or_not (pos zero) = inl refl
is_zero_or_not (pos (suc n)) = inr (λ e. absurd (omega (arith, ap unsigned_abs e)))
is_zero_or_not (negsuc n) = inr (λ e. absurd (omega (arith, ap unsigned_abs e)))

pub difference_within : (m : ℕ) (c p : ℤ) → Within m c → Within (3 * m + 2) p → Within (4 * m + 2) (c -ℤ p)
difference_within m c p hc hp = record { low = omega (arith, ints); high = omega (arith, ints) }

pub restored_value-within : (m : ℕ) (c p : ℤ) (q : ℕ) → q ≤ 127 → Within m c → Within (3 * m + 2) p → Within (3 * m + 2) (restored_value c q p)
restored_value-within m c p q le hc hp = elim (is_zero_or_not (forward_of (c -ℤ p) q)) [
  | inl none ↦
      let same : restored_value c q p ≡ p = ap (λ v. p +ℤ inverse_of v q) none ∙ ap (λ v. p +ℤ v) (inverse-zero q) ∙ omega (arith, ints) in
      subst (λ v. Within (3 * m + 2) v) (sym same) hp
  | inr some ↦
      let error = error_small (c -ℤ p) q le some in
      let size = within_abs (4 * m + 2) (c -ℤ p) (difference_within m c p hc hp) in
      let off = abs_within (2 * m + 2) (inverse_of (forward_of (c -ℤ p) q) q -ℤ (c -ℤ p)) (omega (arith, error, size)) in
      record { low = omega (arith, ints, off.low, hc.low); high = omega (arith, ints, off.high, hc.high) }
]

pub index_most : (indices : List ℕ) (n : ℕ) → All IsIndex indices → get_or indices n 0 ≤ 127
index_most indices n all = elim (cases_lt n (length indices)) as (λ _. get_or indices n 0 ≤ 127) [
  | inl lt ↦ All-get_or IsIndex indices n 0 lt all
  | inr past ↦ omega (arith, get_or_past indices n 0 past)
]

pub stays_near : RestoredStaysNear
unfolding restored_after
stays_near c m indices all small y x =
    let quantiser = λ (j i : ℕ). band_quantiser c.matrix (get_or indices (slice_holding c.slicing c.size j i) 0) 0 0 in
    let near_all = λ (j i : ℕ) (p : ℤ) (h : Within (3 * m + 2) p).
    restored_value-within m (coefficient c 0 0 j i) p (quantiser j i) (omega (arith, index_most indices (slice_holding c.slicing c.size j i) all)) (small j i) h
    in
    let band = made_within (3 * m + 2) (λ j i p. restored_value (coefficient c 0 0 j i) (quantiser j i) p) near_all in
    (band y x, difference_within m (coefficient c 0 0 y x) (prediction (restored_after c indices) y x) (small y x) (prediction_within (3 * m + 2) (restored_after c indices) band y x))

-- what a residual is restored to
pub inverse_small : (r : ℤ) (m q : ℕ) → q ≤ 127 → unsigned_abs r ≤ m → unsigned_abs (inverse_of (forward_of r q) q) ≤ 2 * m + 1
inverse_small r m q le h = elim (is_zero_or_not (forward_of r q)) as (λ _. unsigned_abs (inverse_of (forward_of r q) q) ≤ 2 * m + 1) [
  | inl none ↦ rw (none, inverse-zero q) (omega arith)
  | inr some ↦
      let error = error_small r q le some in
      let off = abs_within (unsigned_abs r / 2 + 1) (inverse_of (forward_of r q) q -ℤ r) (omega (arith, error)) in
      let own = abs_within (unsigned_abs r) r (omega arith) in
      within_abs (2 * m + 1) (inverse_of (forward_of r q) q) (record { low = omega (arith, ints, off.low, own.low); high = omega (arith, ints, off.high, own.high) })
]

-- a coefficient is kept in 32 bits
pub fits_narrow : (v : ℤ) → Within (2 ^ 27) v → to_z w32 (of_z w32 v) ≡ v
fits_narrow v near = omega (arith, ints)

-- a number of 32 bits that was read out of a list
pub number_read : (list : List ℤ) (n m : ℕ) → n ≡ m → Within (2 ^ 27) (get_or list m (pos 0)) → to_z w32 (of_z w32 (get_or list n (pos 0))) ≡ get_or list m (pos 0)
number_read list n m is small = ap (λ (k : ℕ). to_z w32 (of_z w32 (get_or list k (pos 0)))) is ∙ fits_narrow (get_or list m (pos 0)) small
