-- Eight values, one by one.
use Rattle.std.proofs.Common.{◌≡◌, ℕ, ◌≤◌, List, [], ◌∷◌, length, get_or, ℤ, pos, to_z, of_z, w8, unsigned_abs, refl, sym, ap, subst, ◌∙◌, arith}
use Rattle.std.proofs.lemmas.Int.{to_z-of_z, fits_signed_from_abs}
use Rattle.bounded_blocks.specs.Parts.{AreWithin}
use Rattle.bounded_blocks.proofs.ReadLemmas.{within-at}

-- a low value of eight bits is what it was
pub byte-is : (vs : List ℤ) (k : ℕ) (v : ℤ) → AreWithin 127 vs → v ≡ to_z w8 (of_z w8 (get_or vs k (pos 0))) → v ≡ get_or vs k (pos 0)
byte-is vs k v low is =
    let small : unsigned_abs (get_or vs k (pos 0)) ≤ 127 = within-at 127 vs k low in
    is ∙ to_z-of_z w8 (get_or vs k (pos 0)) (fits_signed_from_abs w8 (get_or vs k (pos 0)) (omega (arith, small)))

-- and it is low
pub low-byte : (vs : List ℤ) (k : ℕ) → AreWithin 127 vs → unsigned_abs (to_z w8 (of_z w8 (get_or vs k (pos 0)))) ≤ 127
low-byte vs k low = subst (λ (z : ℤ). unsigned_abs z ≤ 127) (sym (byte-is vs k _ low refl)) (within-at 127 vs k low)

pub cons-same : (a b : ℤ) (xs ys : List ℤ) → a ≡ b → xs ≡ ys → a ∷ xs ≡ b ∷ ys
cons-same a b xs ys e f = ap (λ (z : ℤ). z ∷ xs) e ∙ ap (λ (t : List ℤ). b ∷ t) f

-- a list of eight
pub eight-are : (vs : List ℤ) → length vs ≡ 8
    → get_or vs 0 (pos 0) ∷ get_or vs 1 (pos 0) ∷ get_or vs 2 (pos 0) ∷ get_or vs 3 (pos 0) ∷ get_or vs 4 (pos 0) ∷ get_or vs 5 (pos 0) ∷ get_or vs 6
    (pos 0) ∷ get_or vs 7 (pos 0) ∷ []
    ≡ vs
eight-are [] is = absurd (omega (arith, is))
eight-are (a ∷ []) is = absurd (omega (arith, is))
eight-are (a ∷ b ∷ []) is = absurd (omega (arith, is))
eight-are (a ∷ b ∷ d ∷ []) is = absurd (omega (arith, is))
eight-are (a ∷ b ∷ d ∷ e ∷ []) is = absurd (omega (arith, is))
eight-are (a ∷ b ∷ d ∷ e ∷ f ∷ []) is = absurd (omega (arith, is))
eight-are (a ∷ b ∷ d ∷ e ∷ f ∷ g ∷ []) is = absurd (omega (arith, is))
eight-are (a ∷ b ∷ d ∷ e ∷ f ∷ g ∷ h ∷ []) is = absurd (omega (arith, is))
eight-are (a ∷ b ∷ d ∷ e ∷ f ∷ g ∷ h ∷ i ∷ []) is = refl
eight-are (a ∷ b ∷ d ∷ e ∷ f ∷ g ∷ h ∷ i ∷ j ∷ vs) is = absurd (omega (arith, is))
