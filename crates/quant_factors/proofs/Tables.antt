-- Facts that are tested at each index below a bound.
use Rattle.std.proofs.Common.{◌≡◌, ℕ, zero, suc, ◌+◌, ◌*◌, ◌^◌, ◌<◌, ◌≤◌, Bool, true, false, ◌&&◌, eqb, get_or, sym, subst, inl, inr, arith}
use Rattle.std.proofs.Math.Dec.{T, leb, leb→le, eqb→eq}
use Rattle.std.proofs.lemmas.Bool.{cases_eq}
use Rattle.quant_factors.specs.declared.TheConstants.{FACTORS, RECIPROCALS}
use Rattle.quant_factors.specs.Factors.{factor_of, offset_of}

-- the test passes at each index below n
abbrev pub passes : (ℕ → Bool) → ℕ → Bool
passes test zero = true
passes test (suc n) = test n && passes test n

both : (a b : Bool) → T (a && b) → T a × T b
both true b h = (tt, h)
both false b h = absurd h

pub passed : (test : ℕ → Bool) (n : ℕ) → T (passes test n) → (i : ℕ) → i < n → T (test i)
passed test zero h i lt = absurd (omega arith)
passed test (suc n) h i lt = elim (cases_eq i n) [
  | inl e ↦ subst (λ (k : ℕ). T (test k)) (sym e) (both (test n) (passes test n) h).0
  | inr ne ↦ passed test n (both (test n) (passes test n) h).1 i (omega arith)
]

pub table_is : (i : ℕ) → i < 128 → get_or FACTORS i 0 ≡ factor_of i
unfolding factor_of
table_is i lt = eqb→eq _ _ (passed (λ k. eqb (get_or FACTORS k 0) (factor_of k)) 128 tt i lt)

pub factors_rise : (i : ℕ) → i < 127 → factor_of i ≤ factor_of (i + 1)
unfolding factor_of
factors_rise i lt = leb→le _ _ (passed (λ k. leb (factor_of k) (factor_of (k + 1))) 127 tt i lt)

pub factor_least : (i : ℕ) → i < 128 → 4 ≤ factor_of i
unfolding factor_of
factor_least i lt = leb→le _ _ (passed (λ k. leb 4 (factor_of k)) 128 tt i lt)

pub factor_most : (i : ℕ) → i < 128 → factor_of i ≤ 2 ^ 34
unfolding factor_of
factor_most i lt = leb→le _ _ (passed (λ k. leb (factor_of k) (2 ^ 34)) 128 tt i lt)

-- an offset is about half the factor
pub offset_most : (i : ℕ) → i < 128 → 2 * offset_of i ≤ factor_of i + 1
unfolding factor_of offset_of
offset_most i lt = leb→le _ _ (passed (λ k. leb (2 * offset_of k) (factor_of k + 1)) 128 tt i lt)

pub offset_least : (i : ℕ) → i < 128 → factor_of i ≤ 2 * offset_of i + 2
unfolding factor_of offset_of
offset_least i lt = leb→le _ _ (passed (λ k. leb (factor_of k) (2 * offset_of k + 2)) 128 tt i lt)

-- a reciprocal is 2 ^ 64 over the factor, rounded up
pub reciprocal_least : (i : ℕ) → i < 128 → 2 ^ 64 ≤ factor_of i * get_or RECIPROCALS i 0
unfolding factor_of
reciprocal_least i lt = leb→le _ _ (passed (λ k. leb (2 ^ 64) (factor_of k * get_or RECIPROCALS k 0)) 128 tt i lt)

pub reciprocal_most : (i : ℕ) → i < 128 → factor_of i * get_or RECIPROCALS i 0 ≤ 2 ^ 64 + factor_of i
unfolding factor_of
reciprocal_most i lt = leb→le _ _ (passed (λ k. leb (factor_of k * get_or RECIPROCALS k 0) (2 ^ 64 + factor_of k)) 128 tt i lt)
