use Rattle.std.proofs.Common.{◌≡◌, ◌∙◌, sym, ap, subst, refl, ℕ, ◌+◌, ◌*◌, ◌^◌, ◌≤◌, arith, ℤ, ◌+ℤ◌, ◌-ℤ◌, to_z, of_z, w64}
use Rattle.std.specs.Prelude.{unsigned_abs}
use Rattle.std.proofs.lemmas.Int.{ints}
use Rattle.planes.specs.Numbers.{Within}
use Rattle.quant_factors.specs.Factors.{inverse_of, forward_of}
use Rattle.dc_prediction.proofs.PredictionLemmas.{fits}
use Rattle.slice_encoder.specs.Loop.{residual_of, restored_value}
use Rattle.slice_encoder.proofs.Near.{restored_value-within, within_abs, abs_within, inverse_small}
use Rattle.slice_encoder.proofs.rect_trials.tried.Goals as goal

-- what comes out of the conversions
value_is : (c p r v : ℤ) (i : ℕ) → i ≤ 127 → Within (2 ^ 27) c → Within (3 * 2 ^ 27 + 2) p → r ≡ residual_of (to_z w64 (of_z w64 c)) i (to_z w64 (of_z w64 p)) → unsigned_abs r ≤ 2 ^ 36
    → v ≡ inverse_of (to_z w64 (of_z w64 r)) i → to_z w64 (of_z w64 (to_z w64 (of_z w64 p) +ℤ to_z w64 (of_z w64 v))) ≡ restored_value c i p
value_is c p r v i le hc hp is small iv =
    let cs : to_z w64 (of_z w64 c) ≡ c = fits (2 ^ 27) c (omega arith) hc in
    let ps : to_z w64 (of_z w64 p) ≡ p = fits (3 * 2 ^ 27 + 2) p (omega arith) hp in
    let rs : to_z w64 (of_z w64 r) ≡ r = fits (2 ^ 36) r (omega arith) (abs_within (2 ^ 36) r small) in
    let residual : r ≡ forward_of (c -ℤ p) i = is ∙ rw (cs, ps) refl in
    let restored : v ≡ inverse_of (forward_of (c -ℤ p) i) i = iv ∙ ap (λ t. inverse_of t i) (rs ∙ residual) in
    let difference = within_abs (4 * 2 ^ 27 + 2) (c -ℤ p) (record { low = omega (arith, ints); high = omega (arith, ints) }) in
    let off = inverse_small (c -ℤ p) (4 * 2 ^ 27 + 2) i le difference in
    let vs : to_z w64 (of_z w64 v) ≡ v = fits (2 ^ 36) v (omega arith) (abs_within (2 ^ 36) v (omega (arith, off, ap unsigned_abs restored))) in
    let sum : to_z w64 (of_z w64 p) +ℤ to_z w64 (of_z w64 v) ≡ restored_value c i p = rw (ps, vs) (ap (λ t. p +ℤ t) restored) in
    rw sum (fits (3 * 2 ^ 27 + 2) (restored_value c i p) (omega arith) (restored_value-within (2 ^ 27) c p i le hc hp))

-- no residual is restored to a number that is too large
never : (c p r : ℤ) (i : ℕ) → i ≤ 127 → Within (2 ^ 27) c → Within (3 * 2 ^ 27 + 2) p → r ≡ residual_of (to_z w64 (of_z w64 c)) i (to_z w64 (of_z w64 p)) → unsigned_abs r ≤ 2 ^ 36
    → unsigned_abs (inverse_of (to_z w64 (of_z w64 r)) i) ≤ 2 ^ 36
never c p r i le hc hp is small =
    let cs : to_z w64 (of_z w64 c) ≡ c = fits (2 ^ 27) c (omega arith) hc in
    let ps : to_z w64 (of_z w64 p) ≡ p = fits (3 * 2 ^ 27 + 2) p (omega arith) hp in
    let rs : to_z w64 (of_z w64 r) ≡ r = fits (2 ^ 36) r (omega arith) (abs_within (2 ^ 36) r small) in
    let residual : r ≡ forward_of (c -ℤ p) i = is ∙ rw (cs, ps) refl in
    let difference = within_abs (4 * 2 ^ 27 + 2) (c -ℤ p) (record { low = omega (arith, ints); high = omega (arith, ints) }) in
    let off = inverse_small (c -ℤ p) (4 * 2 ^ 27 + 2) i le difference in
    omega (arith, off, ap (λ t. unsigned_abs (inverse_of t i)) (rs ∙ residual))

pub returns-in-Is-clause-small : goal.returns-in-Is-clause-small
returns-in-Is-clause-small c =
    let a = c.args in
    subst (λ v. Within (3 * 2 ^ 27 + 2) v) (sym (value_is a.coefficient a.prediction c.residual-value.result c.in-Is.difference a.index c.requires.index c.requires.coefficient_small c.requires.prediction_small c.residual-value.ensures.value c.residual-value.ensures.small c.in-Is.ensures.0))
    (restored_value-within (2 ^ 27) a.coefficient a.prediction a.index c.requires.index c.requires.coefficient_small c.requires.prediction_small)

pub returns-in-TooLarge-clause-restored : goal.returns-in-TooLarge-clause-restored
returns-in-TooLarge-clause-restored c =
    let a = c.args in
    absurd (omega (arith, c.in-TooLarge.ensures, never a.coefficient a.prediction c.residual-value.result a.index c.requires.index c.requires.coefficient_small c.requires.prediction_small c.residual-value.ensures.value c.residual-value.ensures.small))
