-- The laws of quantising, from the bounds of factors and offsets.
use Rattle.std.proofs.Common.{◌≡◌, ◌≢◌, ℕ, zero, suc, ◌+◌, ◌-◌, ◌*◌, ◌/◌, ◌^◌, ◌<◌, ◌≤◌, ℤ, pos, negsuc, neg_ℤ, ◌-ℤ◌, ◌≤ℤ◌, refl, sym, ap, subst, ◌∙◌, inl, inr, arith}
use Rattle.std.specs.Prelude.{unsigned_abs}
use Rattle.std.proofs.lemmas.Int.{ints}
use Rattle.std.proofs.lemmas.Bool.{cases_lt}
use Rattle.std.proofs.lemmas.Bool.Decides.{nat_tests}
use Rattle.std.proofs.Math.Nat.{div-lt_iff_lt-mul, mul-le-mul_left, mul-le-mul_right, div-mul-le_self, lt-div-mul-add}
use Rattle.quant_factors.specs.Factors.{factor_of, offset_of, signed, restored_of, inverse_of, forward_of}
use Rattle.quant_factors.proofs.Tables.{factors_rise, factor_least, offset_most, offset_least}

pub abs-signed : (z : ℤ) (m : ℕ) → unsigned_abs (signed z m) ≡ m
abs-signed (pos n) m = refl
abs-signed (negsuc n) zero = refl
abs-signed (negsuc n) (suc m) = refl

pub restored-zero : (i : ℕ) → restored_of 0 i ≡ 0
unfolding restored_of
restored-zero i = refl

pub restored-some : (m i : ℕ) → 1 ≤ m → restored_of m i ≡ (m * factor_of i + offset_of i + 2) / 4
unfolding restored_of
restored-some m i one = grind (arith, nat_tests)

pub abs-inverse : (q : ℤ) (i : ℕ) → unsigned_abs (inverse_of q i) ≡ restored_of (unsigned_abs q) i
unfolding inverse_of
abs-inverse q i = abs-signed q (restored_of (unsigned_abs q) i)

pub abs-forward : (c : ℤ) (i : ℕ) → unsigned_abs (forward_of c i) ≡ 4 * unsigned_abs c / factor_of i
unfolding forward_of
abs-forward c i = abs-signed c (4 * unsigned_abs c / factor_of i)

-- a restored magnitude is no smaller

fourth : (a b : ℕ) → 4 * a ≤ b → a ≤ b / 4
fourth a b h = omega arith

restored_least : (m i : ℕ) → i ≤ 127 → m ≤ restored_of m i
restored_least zero i le = omega (arith, restored-zero i)
restored_least (suc m) i le =
    let product : suc m * 4 ≤ suc m * factor_of i = mul-le-mul_left (suc m) (factor_least i (omega arith)) in
    let large : suc m ≤ (suc m * factor_of i + offset_of i + 2) / 4 = fourth (suc m) (suc m * factor_of i + offset_of i + 2) (omega (arith, product)) in
    omega (arith, restored-some (suc m) i (omega arith), large)

pub magnitude_kept : (q : ℤ) (i : ℕ) → i ≤ 127 → unsigned_abs q ≤ unsigned_abs (inverse_of q i)
magnitude_kept q i le = omega (arith, abs-inverse q i, restored_least (unsigned_abs q) i le)

-- at index 0

signed-signed : (c : ℤ) (m n : ℕ) → (m ≡ 0 → n ≡ 0) → signed (signed c m) n ≡ signed c n
signed-signed (pos c) m n h = refl
signed-signed (negsuc c) zero n h = ap (λ n. pos n) (h refl) ∙ sym (ap (λ n. neg_ℤ (pos n)) (h refl))
signed-signed (negsuc c) (suc m) n h = refl

signed-abs : (c : ℤ) → signed c (unsigned_abs c) ≡ c
signed-abs (pos n) = refl
signed-abs (negsuc n) = refl

quarter : (m : ℕ) → 4 * m / factor_of 0 ≡ m
unfolding factor_of
quarter m = omega arith

factor-zero : factor_of 0 ≡ 4
unfolding factor_of
factor-zero = refl

offset-zero : offset_of 0 ≡ 1
unfolding offset_of
offset-zero = refl

back : (m : ℕ) → restored_of m 0 ≡ m
back zero = restored-zero 0
back (suc m) = restored-some (suc m) 0 (omega arith) ∙ rw (factor-zero, offset-zero) (omega arith)

pub lossless : (c : ℤ) → inverse_of (forward_of c 0) 0 ≡ c
unfolding inverse_of forward_of
lossless c =
    let q : 4 * unsigned_abs c / factor_of 0 ≡ unsigned_abs c = quarter (unsigned_abs c) in
    let r : restored_of (unsigned_abs (signed c (4 * unsigned_abs c / factor_of 0))) 0 ≡ unsigned_abs c = ap (λ m. restored_of m 0) (abs-signed c (4 * unsigned_abs c / factor_of 0) ∙ q) ∙ back (unsigned_abs c) in
    ap (signed (signed c (4 * unsigned_abs c / factor_of 0))) r
    ∙ signed-signed c (4 * unsigned_abs c / factor_of 0) (unsigned_abs c) (λ none. sym q ∙ none)
    ∙ signed-abs c

-- how far a restored number is off

abs_most : (z : ℤ) (k : ℕ) → neg_ℤ (pos k) ≤ℤ z → z ≤ℤ pos k → unsigned_abs z ≤ k
abs_most (pos n) k low high = omega (arith, ints)
abs_most (negsuc n) k low high = omega (arith, ints)

off_by : (c : ℤ) (m : ℕ) → 2 * m ≤ 3 * unsigned_abs c + 2 → unsigned_abs c ≤ 2 * m + 2 → 2 * unsigned_abs (signed c m -ℤ c) ≤ unsigned_abs c + 2
off_by (pos n) m high low = omega (arith, abs_most (pos m -ℤ pos n) ((n + 2) / 2) (omega (arith, ints)) (omega (arith, ints)))
off_by (negsuc n) m high low = omega (arith, abs_most (neg_ℤ (pos m) -ℤ negsuc n) ((suc n + 2) / 2) (omega (arith, ints)) (omega (arith, ints)))

-- q is 4 * r over f
near : (r f o q : ℕ) → 2 * o ≤ f + 1 → f ≤ 2 * o + 2 → q * f ≤ 4 * r → 4 * r < q * f + f → f ≤ q * f → (2 * ((q * f + o + 2) / 4) ≤ 3 * r + 2) × (r ≤ 2 * ((q * f + o + 2) / 4) + 2)
near r f o q most least low high one = (omega arith, omega arith)

restored_near : (r i : ℕ) → i ≤ 127 → 1 ≤ 4 * r / factor_of i → (2 * restored_of (4 * r / factor_of i) i ≤ 3 * r + 2) × (r ≤ 2 * restored_of (4 * r / factor_of i) i + 2)
restored_near r i le one =
    let some : 0 < factor_of i = omega (arith, factor_least i (omega arith)) in
    let whole : 1 * factor_of i ≤ 4 * r / factor_of i * factor_of i = mul-le-mul_right (factor_of i) one in
    let bounds = near r (factor_of i) (offset_of i) (4 * r / factor_of i) (offset_most i (omega arith)) (offset_least i (omega arith)) (div-mul-le_self (4 * r) (factor_of i)) (lt-div-mul-add some) (omega (arith, whole)) in
    rw (restored-some (4 * r / factor_of i) i one) bounds

signed-zero : (z : ℤ) → signed z 0 ≡ pos 0
signed-zero (pos n) = refl
signed-zero (negsuc n) = refl

-- what is left of a number
some_left : (r : ℤ) (q : ℕ) → signed r q ≢ pos 0 → 1 ≤ q
some_left r zero some = absurd (some (signed-zero r))
some_left r (suc q) some = omega arith

error_at : (r : ℤ) (i q : ℕ) → q ≡ 4 * unsigned_abs r / factor_of i → i ≤ 127 → 1 ≤ q → 2 * unsigned_abs (inverse_of (signed r q) i -ℤ r) ≤ unsigned_abs r + 2
unfolding inverse_of
error_at r i q is le one =
    let restored : signed (signed r q) (restored_of (unsigned_abs (signed r q)) i) ≡ signed r (restored_of q i) =
    ap (λ m. signed (signed r q) (restored_of m i)) (abs-signed r q)
    ∙ signed-signed r q (restored_of q i) (λ none. absurd (omega arith))
    in
    let bounds = restored_near (unsigned_abs r) i le (subst (λ (n : ℕ). 1 ≤ n) is one) in
    let P : ℤ → Type 0 = λ v. 2 * unsigned_abs (v -ℤ r) ≤ unsigned_abs r + 2 in
    let Q : ℕ → Type 0 = λ n. (2 * restored_of n i ≤ 3 * unsigned_abs r + 2) × (unsigned_abs r ≤ 2 * restored_of n i + 2) in
    let at_q = subst Q (sym is) bounds in
    subst P (sym restored) (off_by r (restored_of q i) at_q.0 at_q.1)

pub error_small : (r : ℤ) (i : ℕ) → i ≤ 127 → forward_of r i ≢ pos 0 → 2 * unsigned_abs (inverse_of (forward_of r i) i -ℤ r) ≤ unsigned_abs r + 2
unfolding forward_of
error_small r i le some = error_at r i (4 * unsigned_abs r / factor_of i) refl le (some_left r _ some)

-- a coarser index

factors_rise_to : (i k : ℕ) → i + k ≤ 127 → factor_of i ≤ factor_of (i + k)
factors_rise_to i zero le =
    let same : i + 0 ≡ i = omega arith in
    omega (arith, ap factor_of same)
factors_rise_to i (suc k) le =
    let next : i + k + 1 ≡ i + suc k = omega arith in
    omega (arith, factors_rise_to i k (omega arith), factors_rise (i + k) (omega arith), ap factor_of next)

-- a greater divisor gives no greater quotient
div-falls : (n f g : ℕ) → 1 ≤ f → f ≤ g → n / g ≤ n / f
div-falls n f g one le = elim (cases_lt (n / f) (n / g)) [
  | inl below ↦
      absurd (omega (arith, (div-lt_iff_lt-mul {k = f} {x = n} {y = n / g} (omega arith)).0 below, div-mul-le_self n g, mul-le-mul_left (n / g) le))
  | inr above ↦ above
]

pub coarser : (c : ℤ) (i j : ℕ) → i ≤ j → j ≤ 127 → unsigned_abs (forward_of c j) ≤ unsigned_abs (forward_of c i)
coarser c i j le most =
    let whole : i + (j - i) ≡ j = omega arith in
    let rise : factor_of i ≤ factor_of j = omega (arith, factors_rise_to i (j - i) (omega arith), ap factor_of whole) in
    omega (arith, abs-forward c i, abs-forward c j, div-falls (4 * unsigned_abs c) (factor_of i) (factor_of j) (omega (arith, factor_least i (omega arith))) rise)

-- for the code

pub inverse-signed : (q : ℤ) (i : ℕ) → inverse_of q i ≡ signed q (restored_of (unsigned_abs q) i)
unfolding inverse_of
inverse-signed q i = refl

pub restored-by : (m i factor offset : ℕ) → 1 ≤ m → factor ≡ factor_of i → offset ≡ offset_of i → restored_of m i ≡ (m * factor + offset + 2) / 4
restored-by m i factor offset one is_factor is_offset = rw (is_factor, is_offset) (restored-some m i one)

-- a product that passes every magnitude that is allowed
pub too_large : (m f o : ℕ) → 2 ^ 29 < m → 2 ^ 10 ≤ f → 2 ^ 36 < (m * f + o + 2) / 4
too_large m f o large coarse =
    let product : m * 2 ^ 10 ≤ m * f = mul-le-mul_left m coarse in
    omega (arith, product)
