-- A coefficient quantised by its magnitude, and its sign put on by a product.
use Rattle.std.proofs.Common.{◌≡◌, ◌∙◌, sym, ap, subst, ℕ, suc, ◌*◌, ◌/◌, ◌^◌, ◌≤◌, arith, ℤ, pos, negsuc, neg_ℤ, ◌*ℤ◌, to_z, of_z, w64, FitsSigned}
use Rattle.std.specs.Prelude.{unsigned_abs}
use Rattle.std.proofs.lemmas.Int.{ints, fits_signed_from_abs}
use Rattle.planes.specs.Numbers.{Within}
use Rattle.quant_factors.specs.Factors.{factor_of, signed, forward_of}
use Rattle.bounded_blocks.specs.Parts.{IsSmall}
use Rattle.slice_encoder.proofs.Near.{within_abs, abs_within}
use Rattle.slice_encoder.proofs.Gathers.{value_small}
use Rattle.slice_encoder.proofs.BlockTexts.{told}

one_times : (k : ℕ) → pos 1 *ℤ pos k ≡ pos k
one_times k = omega (arith, ints)

less_times : (k : ℕ) → neg_ℤ (pos 1) *ℤ pos k ≡ neg_ℤ (pos k)
less_times k = omega (arith, ints)

sign_times : (v : ℤ) (q : ℕ) → signed v 1 *ℤ forward_of (pos (unsigned_abs v)) q ≡ forward_of v q
unfolding forward_of
sign_times (pos n) q = one_times (4 * n / factor_of q)
sign_times (negsuc n) q = less_times (4 * suc n / factor_of q)

sign_told : (v : ℤ) → to_z w64 (of_z w64 (signed v 1)) ≡ signed v 1
sign_told (pos n) = omega (arith, ints)
sign_told (negsuc n) = omega (arith, ints)

module _ (v s m : ℤ) (q : ℕ) (le : q ≤ 127) (near : Within (2 ^ 27) v) (s_is : s ≡ signed v 1) (m_is : m ≡ forward_of (pos (unsigned_abs v)) q) where
  small : IsSmall (forward_of v q)
  small = value_small v q le near

  product_is : to_z w64 (of_z w64 s) *ℤ to_z w64 (of_z w64 m) ≡ forward_of v q
  product_is =
      let magnitude : Within (2 ^ 27) (pos (unsigned_abs v)) = abs_within (2 ^ 27) (pos (unsigned_abs v)) (within_abs (2 ^ 27) v near) in
      let m_told : to_z w64 (of_z w64 m) ≡ m = told m (subst IsSmall (sym m_is) (value_small (pos (unsigned_abs v)) q le magnitude)) in
      let s_told : to_z w64 (of_z w64 s) ≡ signed v 1 = ap (λ (t : ℤ). to_z w64 (of_z w64 t)) s_is ∙ sign_told v in
      ap (λ (t : ℤ). t *ℤ to_z w64 (of_z w64 m)) s_told ∙ ap (λ (t : ℤ). signed v 1 *ℤ t) (m_told ∙ m_is) ∙ sign_times v q

  pub product_fits : FitsSigned w64 (to_z w64 (of_z w64 s) *ℤ to_z w64 (of_z w64 m))
  product_fits = subst (FitsSigned w64) (sym product_is) (fits_signed_from_abs w64 (forward_of v q) (omega (arith, small)))

  pub quantised_is : to_z w64 (of_z w64 (to_z w64 (of_z w64 s) *ℤ to_z w64 (of_z w64 m))) ≡ forward_of v q
  quantised_is = ap (λ (t : ℤ). to_z w64 (of_z w64 t)) product_is ∙ told (forward_of v q) small
