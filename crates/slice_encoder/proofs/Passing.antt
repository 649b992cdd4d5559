-- A code's length by the limits that a coefficient's magnitude passes.
use Rattle.std.proofs.Common.{◌≡◌, ◌≢◌, ◌∙◌, ap, refl, sym, ℕ, zero, suc, ◌+◌, ◌-◌, ◌*◌, ◌/◌, ◌^◌, ◌<◌, ◌≤◌, min, Bool, true, false, [], ◌∷◌, length, arith, inl, inr, ℤ, pos}
use Rattle.std.specs.Prelude.{nat_le, int_lt, if◌then◌else◌, unsigned_abs}
use Rattle.std.proofs.lemmas.Bool.{cases_lt, le-leb, lt-leb, lt-ltb, le-ltb}
use Rattle.std.proofs.lemmas.Nat.{le-div}
use Rattle.std.proofs.lemmas.List.{length-append}
use Rattle.std.proofs.Math.Nat.{le-div_iff_mul-le, pow-suc}
use Rattle.bit_codes.specs.Codes.{code_of, signed_code_of}
use Rattle.bit_codes.proofs.CodeOf.{length-code_of}
use Rattle.quant_factors.specs.Factors.{factor_of, forward_of}
use Rattle.slice_encoder.specs.Limits.{limit_at}
use Rattle.slice_encoder.specs.Looks.{passes}

abbrev pub bit : Bool → ℕ
bit b = if b then 1 else 0

-- of the first n limits, how many a magnitude passes: limit k is the least at which the quotient and one more are 2^k
abbrev pub passed : ℕ → ℕ → ℕ → ℕ
passed m f zero = 0
passed m f (suc n) = passed m f n + (if nat_le ((2 ^ (n + 1) - 1) * f) (4 * m) then 1 else 0)

module _ (m f : ℕ) (some : 1 ≤ f) where
  abbrev q : ℕ
  q = 4 * m / f

  -- the quotient is at least x just where x times the divisor is at most the number
  times : (x : ℕ) → x ≤ q → x * f ≤ 4 * m
  times x le = (le-div_iff_mul-le some).0 le

  back : (x : ℕ) → x * f ≤ 4 * m → x ≤ q
  back x le = le-div x (4 * m) f (omega (arith, some)) le

  bit_one : (n p : ℕ) → p ≡ 2 ^ (n + 1) → p ≤ q + 1 → passed m f (suc n) ≡ passed m f n + 1
  bit_one n p is low = rw (le-leb ((2 ^ (n + 1) - 1) * f) (4 * m) (times (2 ^ (n + 1) - 1) (omega (arith, is, low)))) refl

  bit_none : (n p : ℕ) → p ≡ 2 ^ (n + 1) → q + 1 < p → passed m f (suc n) ≡ passed m f n
  bit_none n p is high = elim (cases_lt (4 * m) ((2 ^ (n + 1) - 1) * f)) as (λ _. passed m f (suc n) ≡ passed m f n) [
    | inl lt ↦ rw (lt-leb ((2 ^ (n + 1) - 1) * f) (4 * m) lt) (omega arith)
    | inr le ↦ absurd (omega (arith, is, high, back (2 ^ (n + 1) - 1) le))
  ]

  double : (n : ℕ) → 2 ^ (n + 1) ≡ 2 * 2 ^ n
  double n = ap (λ (k : ℕ). 2 ^ k) (omega arith) ∙ pow-suc 2 n ∙ omega arith

  all_passed : (n : ℕ) → 2 ^ n ≤ q + 1 → passed m f n ≡ n
  all_passed zero low = refl
  all_passed (suc n) low =
      let same : 2 ^ suc n ≡ 2 ^ (n + 1) = ap (λ (k : ℕ). 2 ^ k) (omega arith) in
      omega (arith, bit_one n (2 ^ suc n) same low, all_passed n (omega (arith, low, same, double n)))

  -- So many bits a code has, where no later limit is passed.
  by_limits : (top : ℕ) → top ≤ 64 → q + 1 < 2 * 2 ^ top → length (code_of q) ≡ 2 * passed m f top + 1
  by_limits zero le high = length-code_of 0 q (omega arith) (omega (arith, high)) (omega arith)
  by_limits (suc top) le high =
      let same : 2 ^ suc top ≡ 2 ^ (top + 1) = ap (λ (k : ℕ). 2 ^ k) (omega arith) in
      elim (cases_lt (q + 1) (2 ^ suc top)) as (λ _. length (code_of q) ≡ 2 * passed m f (suc top) + 1) [
        | inl lt ↦ omega (arith, by_limits top (omega (arith, le)) (omega (arith, lt, same, double top)), bit_none top (2 ^ suc top) same lt)
        | inr ge ↦ omega (arith, length-code_of (suc top) q ge high le, all_passed (suc top) ge)
      ]

  -- the first limit is passed just where the quotient isn't 0
  first_none : 4 * m < (2 ^ 1 - 1) * f → q ≡ 0
  first_none lt = elim (cases_lt 0 q) [
    | inl less ↦ absurd (omega (arith, lt, times 1 (omega (arith, less))))
    | inr le ↦ omega (arith, le)
  ]

  first_some : (2 ^ 1 - 1) * f ≤ 4 * m → 1 ≤ q
  first_some le = back 1 (omega (arith, le))

-- ---- limits in numbers of some width

-- the test of a limit that the numbers may cut
pub passes_is : (x m g : ℕ) → 1 ≤ x → m ≤ g → passes (pos (min ((x - 1) / 4) g)) (pos m) ≡ (if nat_le x (4 * m) then 1 else 0)
passes_is x m g some le = elim (cases_lt (4 * m) x) as (λ _. passes (pos (min ((x - 1) / 4) g)) (pos m) ≡ (if nat_le x (4 * m) then 1 else 0)) [
  | inl lt ↦
      let no : m ≤ min ((x - 1) / 4) g = omega (arith, lt, le, some) in
      rw (lt-leb x (4 * m) lt, le-ltb (min ((x - 1) / 4) g) m no) refl
  | inr ge ↦
      let yes : min ((x - 1) / 4) g < m = omega (arith, ge, some) in
      rw (le-leb x (4 * m) ge, lt-ltb (min ((x - 1) / 4) g) m yes) refl
]

-- ---- one place

-- how many of the first so many limits of a place are passed
abbrev pub passed_here : (ℕ → ℤ) → ℤ → ℕ → ℕ
passed_here limits size zero = 0
passed_here limits size (suc k) = passed_here limits size k + passes (limits k) size

-- What limits tell of a value: the length of its code, and whether it is 0.
pub record IsToldBy (limits : ℕ → ℤ) (size : ℤ) (asked : ℕ) (v : ℤ) : Type 0 where
  pub bits : length (signed_code_of v) ≡ 1 + passes (limits 0) size + 2 * passed_here limits size asked
  pub none : int_lt (limits 0) size ≡ false → v ≡ pos 0
  pub some : int_lt (limits 0) size ≡ true → v ≢ pos 0

-- the limits of an index, in numbers up to a greatest one
abbrev pub AreLimits : (ℕ → ℤ) → ℕ → ℕ → ℕ → Type 0
AreLimits limits asked index g = (k : ℕ) → k < asked → limits k ≡ pos (min (limit_at (k + 1) index) g)

module _ (limits : ℕ → ℤ) (size : ℤ) (asked index g m : ℕ) (are : AreLimits limits asked index g) (size_is : size ≡ pos m) (le : m ≤ g) (factor_some : 1 ≤ factor_of index) where
  power_some : (k : ℕ) → 2 ≤ 2 ^ (k + 1)
  power_some zero = omega arith
  power_some (suc k) = let next : suc k + 1 ≡ suc (k + 1) = omega arith in omega (arith, power_some k, pow-suc 2 (k + 1), ap (λ (n : ℕ). 2 ^ n) next)

  here : (k : ℕ) → k < asked → passes (limits k) size ≡ (if nat_le ((2 ^ (k + 1) - 1) * factor_of index) (4 * m) then 1 else 0)
  here k lt =
      let x : ℕ = (2 ^ (k + 1) - 1) * factor_of index in
      let some : 1 ≤ x = mul-some (2 ^ (k + 1) - 1) (factor_of index) (omega (arith, power_some k)) factor_some in
      ap (λ (z : ℤ). passes z size) (are k lt) ∙ ap (passes (pos (min ((x - 1) / 4) g))) size_is ∙ passes_is x m g some le
    where
      mul-some : (a b : ℕ) → 1 ≤ a → 1 ≤ b → 1 ≤ a * b
      mul-some a b one two = grind arith

  all_here : (k : ℕ) → k ≤ asked → passed_here limits size k ≡ passed m (factor_of index) k
  all_here zero le2 = refl
  all_here (suc k) le2 = omega (arith, all_here k (omega (arith, le2)), here k (omega (arith, le2)))

  abbrev quotient : ℕ
  quotient = 4 * m / factor_of index

  -- the code of a signed number
  signed_bits : (n : ℕ) → length (signed_code_of (pos n)) ≡ length (code_of n) + (if nat_le 1 n then 1 else 0)
  signed_bits zero = omega arith
  signed_bits (suc n) = omega (arith, length-append (code_of (suc n)) (false ∷ []), ap (λ (b : Bool). bit b) (le-leb 1 (suc n) (omega arith)))

  forward_is : forward_of (pos m) index ≡ pos (4 * m / factor_of index)
  unfolding forward_of
  forward_is = refl

  -- what is asked of a place tells of its value
  pub told : (v : ℤ) → v ≡ forward_of (pos m) index → 1 ≤ asked → asked ≤ 64 → 4 * m / factor_of index + 1 < 2 * 2 ^ asked → IsToldBy limits size asked v
  told v v_is one few high =
      let f : ℕ = factor_of index in
      let x : ℕ = (2 ^ 1 - 1) * f in
      let value : v ≡ pos (4 * m / f) = v_is ∙ forward_is in
      let first : passes (limits 0) size ≡ (if nat_le x (4 * m) then 1 else 0) = here 0 (omega (arith, one)) in
      elim (cases_lt (4 * m) x) [
        | inl lt ↦
            let none : 4 * m / f ≡ 0 = first_none m f factor_some lt in
            let not_passed : passes (limits 0) size ≡ 0 = first ∙ ap (λ (b : Bool). bit b) (lt-leb x (4 * m) lt) in
            let zero_is : v ≡ pos 0 = value ∙ ap (λ (k : ℕ). pos k) none in
            record {
              bits = omega (
                arith,
                not_passed,
                ap (λ (z : ℤ). length (signed_code_of z)) value,
                signed_bits (4 * m / f),
                ap (λ (k : ℕ). bit (nat_le 1 k)) none,
                by_limits m f factor_some asked few high,
                all_here asked (omega arith),
              );
              none = λ _. zero_is;
              some = λ is_true. absurd (omega (arith, not_passed, ap (λ (b : Bool). bit b) is_true));
            }
        | inr ge ↦
            let some_is : 1 ≤ 4 * m / f = first_some m f factor_some ge in
            let is_passed : passes (limits 0) size ≡ 1 = first ∙ ap (λ (b : Bool). bit b) (le-leb x (4 * m) ge) in
            record {
              bits = omega (
                arith,
                is_passed,
                ap (λ (z : ℤ). length (signed_code_of z)) value,
                signed_bits (4 * m / f),
                ap (λ (b : Bool). bit b) (le-leb 1 (4 * m / f) some_is),
                by_limits m f factor_some asked few high,
                all_here asked (omega arith),
              );
              none = λ is_false. absurd (omega (arith, is_passed, ap (λ (b : Bool). bit b) is_false));
              some = λ _ is. absurd (omega (arith, some_is, ap unsigned_abs (sym value ∙ is)));
            }
      ]
