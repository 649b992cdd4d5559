-- The table of the codes of small values, by evaluation.
use Rattle.std.proofs.Common.{◌≡◌, ap, subst, sym, ℕ, zero, suc, ◌^◌, ◌<◌, Bool, true, false, List, [], ◌∷◌, get_or, refl, arith, inl, inr}
use Rattle.std.specs.Prelude.{pos, ◌-ℤ◌, nat_le, nat_lt, ◌&&◌}
use Rattle.std.proofs.Math.Dec.{T, leb→le}
use Rattle.std.proofs.lemmas.Bool.{cases_eq}
use Rattle.bit_codes.specs.Bits.{digits_below}
use Rattle.bit_codes.specs.Codes.{code_of, signed_code_of}
use Rattle.slice_encoder.specs.declared.code_texts.Text.{Text}
use Rattle.slice_encoder.specs.declared.short_texts.TheConstants.{SHORT_TEXTS}
use Rattle.slice_encoder.specs.ShortTexts.{IsTextOf}

abbrev same_bits : List Bool → List Bool → Bool
same_bits [] [] = true
same_bits (true ∷ xs) (true ∷ ys) = same_bits xs ys
same_bits (false ∷ xs) (false ∷ ys) = same_bits xs ys
same_bits _ _ = false

same_bits-is : (xs ys : List Bool) → T (same_bits xs ys) → xs ≡ ys
same_bits-is [] [] t = refl
same_bits-is (true ∷ xs) (true ∷ ys) t = ap (λ (x : List Bool). true ∷ x) (same_bits-is xs ys t)
same_bits-is (false ∷ xs) (false ∷ ys) t = ap (λ (x : List Bool). false ∷ x) (same_bits-is xs ys t)
same_bits-is [] (b ∷ ys) t = absurd t
same_bits-is (true ∷ xs) [] t = absurd t
same_bits-is (false ∷ xs) [] t = absurd t
same_bits-is (true ∷ xs) (false ∷ ys) t = absurd t
same_bits-is (false ∷ xs) (true ∷ ys) t = absurd t

both : (a b : Bool) → T (a && b) → T a × T b
both true b h = (tt, h)
both false b h = absurd h

abbrev no_text : Text
no_text = record { number = 0; length = 0 }

abbrev is_right : ℕ → Bool
is_right n =
    let t = get_or SHORT_TEXTS n no_text in
    same_bits (digits_below t.length t.number) (signed_code_of (pos n -ℤ pos 32)) && (nat_le t.length 12 && nat_lt t.number (2 ^ t.length))

abbrev passes : (ℕ → Bool) → ℕ → Bool
passes test zero = true
passes test (suc n) = test n && passes test n

passed : (test : ℕ → Bool) (n : ℕ) → T (passes test n) → (i : ℕ) → i < n → T (test i)
passed test zero h i lt = absurd (omega arith)
passed test (suc n) h i lt = elim (cases_eq i n) [
  | inl e ↦ subst (λ (k : ℕ). T (test k)) (sym e) (both (test n) (passes test n) h).0
  | inr ne ↦ passed test n (both (test n) (passes test n) h).1 i (omega arith)
]

all_right : T (passes is_right 64)
unfolding code_of
all_right = tt

pub text_at-is : (n : ℕ) → n < 64 → IsTextOf (get_or SHORT_TEXTS n no_text) (pos n -ℤ pos 32)
text_at-is n lt =
    let q = both _ _ (passed is_right 64 all_right n lt) in
    let r = both _ _ q.1 in
    record { text = same_bits-is _ _ q.0; few = leb→le _ _ r.0; number = leb→le _ _ r.1 }
