-- How many bits the codes of values count that aren't 0: they rise with the magnitude, and a need leaves out three at most.
use Rattle.std.proofs.Common.{◌≡◌, ◌∙◌, refl, sym, ap, subst, ℕ, zero, suc, ◌+◌, ◌-◌, ◌*◌, ◌/◌, ◌%◌, ◌^◌, ◌<◌, ◌≤◌, Bool, true, false, eqb, List, [], ◌∷◌, ◌++◌, length, arith, inl, inr, ℤ, pos, negsuc}
use Rattle.std.specs.Prelude.{unsigned_abs}
use Rattle.std.specs.List.{sum_by, range_with_len}
use Rattle.std.proofs.lemmas.Bool.{cases_lt, cases_eq, le-leb, lt-leb}
use Rattle.std.proofs.lemmas.List.{length-append}
use Rattle.std.proofs.lemmas.List.Elements.{All-nil, All-cons}
use Rattle.std.proofs.lemmas.List.Sums.{sum_by-cons}
use Rattle.bit_codes.specs.Codes.{interleaved, digits_before, code_of, signed_code_of}
use Rattle.bit_codes.proofs.CodeOf.{length-interleaved}
use Rattle.bounded_blocks.specs.Blocks.{AreOnes, need_of}
use Rattle.bounded_blocks.specs.Parts.{IsSmall}
use Rattle.bounded_blocks.specs.Writing.{codes_of, need}
use Rattle.bounded_blocks.proofs.CodeLengths.{length-codes_of-most}
use Rattle.bounded_blocks.proofs.Needs.{need-more, need-append, need-append-ones, ones-beyond}
use Rattle.slice_encoder.specs.LowNeeds.{counted_bits}

-- ---- a greater number has no fewer digits

digits-grow : (k m : ℕ) (a : List Bool) → length a ≤ length (digits_before k m a)
digits-grow zero m a = omega arith
digits-grow (suc k) m a = elim (cases_lt 1 m) as (λ _. length a ≤ length (digits_before (suc k) m a)) [
  | inl lt ↦ rw (lt-leb m 1 lt) (omega (arith, digits-grow k (m / 2) (eqb (m % 2) 1 ∷ a)))
  | inr le ↦ rw (le-leb m 1 le) (omega arith)
]

digits-rise : (k m n : ℕ) (a b : List Bool) → m ≤ n → length a ≤ length b → length (digits_before k m a) ≤ length (digits_before k n b)
digits-rise zero m n a b le short = short
digits-rise (suc k) m n a b le short = elim (cases_lt 1 m) as (λ _. length (digits_before (suc k) m a) ≤ length (digits_before (suc k) n b)) [
  | inl lt ↦
      let more : 1 < n = omega arith in
      rw (lt-leb m 1 lt, lt-leb n 1 more) (digits-rise k (m / 2) (n / 2) (eqb (m % 2) 1 ∷ a) (eqb (n % 2) 1 ∷ b) (omega arith) (omega arith))
  | inr small ↦ rw (le-leb m 1 small) (omega (arith, short, digits-grow (suc k) n b))
]

code-rises : (m n : ℕ) → m ≤ n → length (code_of m) ≤ length (code_of n)
unfolding code_of
code-rises m n le =
    let a = digits_before 64 (m + 1) [] in
    let b = digits_before 64 (n + 1) [] in
    omega (arith, length-interleaved a, length-interleaved b, digits-rise 64 (m + 1) (n + 1) [] [] (omega arith) (omega arith))

-- the same by the magnitude
by_magnitude : ℕ → ℕ
by_magnitude zero = 0
by_magnitude (suc n) = length (code_of (suc n)) + 1

magnitude-counts : (v : ℤ) → counted_bits v ≡ by_magnitude (unsigned_abs v)
unfolding by_magnitude
magnitude-counts (pos zero) = refl
magnitude-counts (pos (suc n)) = length-append (code_of (suc n)) (false ∷ [])
magnitude-counts (negsuc n) = length-append (code_of (suc n)) (true ∷ [])

magnitude-rises : (m n : ℕ) → m ≤ n → by_magnitude m ≤ by_magnitude n
unfolding by_magnitude
magnitude-rises zero n le = omega arith
magnitude-rises (suc m) zero le = absurd (omega arith)
magnitude-rises (suc m) (suc n) le = omega (arith, code-rises (suc m) (suc n) le)

pub counted-rises : (v w : ℤ) → unsigned_abs v ≤ unsigned_abs w → counted_bits v ≤ counted_bits w
counted-rises v w le = omega (arith, magnitude-counts v, magnitude-counts w, magnitude-rises (unsigned_abs v) (unsigned_abs w) le)

-- ---- how many ones end a code: the sign, the end of the magnitude and its last digit, and before these stands a zero

abbrev FewOnes : List Bool → Type 0
FewOnes t = (1 ≤ need_of t) × (length t ≤ need_of t + 3)

few_last : (d b : Bool) → FewOnes (false ∷ d ∷ true ∷ b ∷ [])
few_last true true = (omega arith, omega arith)
few_last true false = (omega arith, omega arith)
few_last false true = (omega arith, omega arith)
few_last false false = (omega arith, omega arith)

few_ones : (d : Bool) (ds : List Bool) (b : Bool) → FewOnes (interleaved (d ∷ ds) ++ b ∷ [])
few_ones d [] b = few_last d b
few_ones d (e ∷ ds) b =
    let rest = interleaved (e ∷ ds) ++ b ∷ [] in
    let few = few_ones e ds b in
    let some : need_of rest ≡ suc (need_of rest - 1) = omega (arith, few.0) in
    let more = need-more d rest (need_of rest - 1) some in
    (omega (arith, more), omega (arith, more, few.1, few.0))

-- a number above 0 has a digit
record HasDigit (digits : List Bool) : Type 0 where
  first : Bool
  others : List Bool
  is : digits ≡ first ∷ others

has_digit : (k m : ℕ) (d : Bool) (ds : List Bool) → HasDigit (digits_before k m (d ∷ ds))
has_digit zero m d ds = record { first = d; others = ds; is = refl }
has_digit (suc k) m d ds = elim (cases_lt 1 m) as (λ _. HasDigit (digits_before (suc k) m (d ∷ ds))) [
  | inl lt ↦ rw (lt-leb m 1 lt) (has_digit k (m / 2) (eqb (m % 2) 1) (d ∷ ds))
  | inr le ↦ rw (le-leb m 1 le) (record { first = d; others = ds; is = refl })
]

some_digit : (k m : ℕ) → 1 < m → HasDigit (digits_before (suc k) m [])
some_digit k m lt = rw (lt-leb m 1 lt) (has_digit k (m / 2) (eqb (m % 2) 1) [])

few_in_code : (n : ℕ) (b : Bool) → FewOnes (code_of (suc n) ++ b ∷ [])
unfolding code_of
few_in_code n b =
    let digits = some_digit 63 (suc n + 1) (omega arith) in
    subst (λ (t : List Bool). FewOnes (interleaved t ++ b ∷ [])) (sym digits.is) (few_ones digits.first digits.others b)

-- what one code needs, against what it counts
pub record NeedsMost (counted needed : ℕ) : Type 0 where
  pub none : needed ≡ 0 → counted ≡ 0
  pub most : counted ≤ needed + 3

pub one_code : (v : ℤ) → NeedsMost (counted_bits v) (need_of (signed_code_of v))
one_code (pos zero) = record { none = λ e. refl; most = omega arith }
one_code (pos (suc n)) = let few = few_in_code n false in record { none = λ e. absurd (omega (arith, few.0)); most = few.1 }
one_code (negsuc n) = let few = few_in_code n true in record { none = λ e. absurd (omega (arith, few.0)); most = few.1 }

counted-most : (v : ℤ) → counted_bits v ≤ length (signed_code_of v)
counted-most (pos zero) = omega arith
counted-most (pos (suc n)) = omega arith
counted-most (negsuc n) = omega arith

-- Behind the last code that isn't all ones nothing is counted, and before it all is needed.
pub list_needs : (vs : List ℤ) → NeedsMost (sum_by counted_bits vs) (need vs)
list_needs [] = record { none = λ e. refl; most = omega arith }
list_needs (v ∷ vs) =
    let later = list_needs vs in
    let sum = sum_by-cons counted_bits v vs in
    elim (cases_eq (need vs) 0) as (λ _. NeedsMost (sum_by counted_bits (v ∷ vs)) (need (v ∷ vs))) [
      | inl none ↦
          let ones : AreOnes (codes_of vs) = ones-beyond [] (codes_of vs) (omega (arith, none)) in
          let same : need (v ∷ vs) ≡ need_of (signed_code_of v) = need-append-ones (signed_code_of v) (codes_of vs) ones in
          let one = one_code v in
          let nothing = later.none none in
          record { none = λ e. omega (arith, sum, nothing, one.none (omega (arith, same, e))); most = omega (arith, sum, nothing, same, one.most) }
      | inr ne ↦
          let some : need vs ≡ suc (need vs - 1) = omega arith in
          let all : need (v ∷ vs) ≡ length (signed_code_of v) + suc (need vs - 1) = need-append (signed_code_of v) (codes_of vs) (need vs - 1) some in
          record { none = λ e. absurd (omega (arith, all, e)); most = omega (arith, sum, all, later.most, counted-most v) }
    ]

-- ---- for the code

pub one_code-most : (v : ℤ) → unsigned_abs v ≤ 2 ^ 36 → length (signed_code_of v) ≤ 74
one_code-most v small =
    let all : length (signed_code_of v ++ []) ≤ 74 * 1 = length-codes_of-most (v ∷ []) (All-cons IsSmall v [] small (All-nil IsSmall)) in
    omega (arith, all, length-append (signed_code_of v) [])

-- a sum over one number more
pub sum_more : (f : ℕ → ℕ) (a n j : ℕ) → a + n ≡ j → sum_by f (range_with_len a (n + 1)) ≡ sum_by f (range_with_len a n) + f j
sum_more f a zero j e =
    let here : a ≡ j = omega arith in
    omega (arith, sum_by-cons f a [], ap f here)
sum_more f a (suc n) j e =
    let one : suc n + 1 ≡ suc (n + 1) = omega arith in
    let first : sum_by f (range_with_len a (suc n + 1)) ≡ f a + sum_by f (range_with_len (a + 1) (n + 1)) = ap (λ (k : ℕ). sum_by f (range_with_len a k)) one ∙ sum_by-cons f a (range_with_len (a + 1) (n + 1)) in
    omega (arith, first, sum_by-cons f a (range_with_len (a + 1) n), sum_more f (a + 1) n j (omega arith))
