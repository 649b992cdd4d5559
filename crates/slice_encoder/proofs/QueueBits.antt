-- Bits that are put into bytes one after another.
use Rattle.std.proofs.Common.{◌≡◌, ◌∙◌, refl, sym, ap, subst, ℕ, zero, suc, ◌+◌, ◌-◌, ◌*◌, ◌/◌, ◌%◌, ◌^◌, ◌<◌, ◌≤◌, min, Bool, true, false, List, [], ◌∷◌, ◌++◌, length, take, drop, replicate, bit_and, append_assoc, arith, inl, inr}
use Rattle.std.specs.Int.{bit_at, byte_at, bytes_high_first}
use Rattle.std.specs.Prelude.{◌==◌}
use Rattle.std.proofs.lemmas.Bool.{cases_lt}
use Rattle.std.proofs.lemmas.Nat.{pow-add, pow_pos, shr_split, div_below, mul-add-lt, mod-mul-add}
use Rattle.std.proofs.lemmas.Nat.Bits.{bit_at_cat_low, bit_at_cat_high, bit_at_ones, bit_at-lt, shr_and_one}
use Rattle.std.proofs.lemmas.List.{take_all, take_at, take-append-le, drop_at, length-take-le}
use Rattle.std.proofs.Math.Seq.{take-append_seam, take-add}
use Rattle.std.proofs.Math.Nat.{pow-le-pow_right, mul_assoc, mul_comm, mul-add}
use Rattle.bit_codes.specs.Bits.{bit, bits_of, digits_below}
use Rattle.bit_codes.proofs.Numbers.{bits_of-append, bits_of-take}
use Rattle.bit_codes.proofs.CodeOf.{length-digits_below}
use Rattle.slice_encoder.specs.BitQueues.{bits_so_far}

-- ---- digits

digits_low : (c q r k : ℕ) → k ≤ c → digits_below k (q * 2 ^ c + r) ≡ digits_below k r
digits_low c q r zero le = refl
digits_low c q r (suc k) le =
    ap (λ (d : ℕ). (d == 1) ∷ digits_below k (q * 2 ^ c + r)) (bit_at_cat_low q c r k (omega arith)) ∙ ap (λ (t : List Bool). bit r k ∷ t) (digits_low c q r k (omega arith))

-- the digits of a number, and behind them those of another
pub digits_join : (a c q r : ℕ) → r < 2 ^ c → digits_below (a + c) (q * 2 ^ c + r) ≡ digits_below a q ++ digits_below c r
digits_join zero c q r lt =
    let none : 0 + c ≡ c = omega arith in
    ap (λ (n : ℕ). digits_below n (q * 2 ^ c + r)) none ∙ digits_low c q r c (omega arith)
digits_join (suc a) c q r lt =
    let up : suc a + c ≡ suc (a + c) = omega arith in
    let back : a + c - c ≡ a = omega arith in
    ap (λ (n : ℕ). digits_below n (q * 2 ^ c + r)) up
    ∙ ap (λ (d : ℕ). (d == 1) ∷ digits_below (a + c) (q * 2 ^ c + r)) (bit_at_cat_high q c r (a + c) lt (omega arith) ∙ ap (bit_at q) back)
    ∙ ap (λ (t : List Bool). bit q a ∷ t) (digits_join a c q r lt)

-- and apart again
pub digits_split : (a c n : ℕ) → digits_below (a + c) n ≡ digits_below a (n / 2 ^ c) ++ digits_below c (n % 2 ^ c)
digits_split a c n = ap (λ (m : ℕ). digits_below (a + c) m) (sym (shr_split n c)) ∙ digits_join a c (n / 2 ^ c) (n % 2 ^ c) (let some = pow_pos c in omega (arith, some))

-- what stands above them is of no meaning
digits_mod : (k m n : ℕ) → k ≤ m → digits_below k (n % 2 ^ m) ≡ digits_below k n
digits_mod k m n le = sym (digits_low m (n / 2 ^ m) (n % 2 ^ m) k le) ∙ ap (digits_below k) (shr_split n m)

-- the first digits alone
pub digits_cut : (n fit left number unit : ℕ) → fit ≡ min n left → unit ≡ 2 ^ (n - fit) → digits_below fit (number / unit) ≡ take left (digits_below n number)
digits_cut n fit left number unit fit_is unit_is = elim (cases_lt left n) as (λ _. digits_below fit (number / unit) ≡ take left (digits_below n number)) [
  | inl short ↦
      let all : n ≡ fit + (n - fit) = omega (arith, fit_is) in
      let high = digits_below fit (number / 2 ^ (n - fit)) in
      let low = digits_below (n - fit) (number % 2 ^ (n - fit)) in
      let here : left ≡ length high = omega (arith, fit_is, length-digits_below fit (number / 2 ^ (n - fit))) in
      ap (λ (u : ℕ). digits_below fit (number / u)) unit_is
      ∙ sym (ap (λ (k : ℕ). take k (high ++ low)) here ∙ take-append_seam high low)
      ∙ sym (ap (λ (t : List Bool). take left t) (ap (λ (k : ℕ). digits_below k number) all ∙ digits_split fit (n - fit) number))
  | inr long ↦
      let same : fit ≡ n = omega (arith, fit_is) in
      let none : n - fit ≡ 0 = omega (arith, fit_is) in
      let one : unit ≡ 1 = unit_is ∙ ap (λ (k : ℕ). 2 ^ k) none in
      let whole : number / 1 ≡ number = omega arith in
      ap (λ (k : ℕ). digits_below k (number / unit)) same
      ∙ ap (λ (u : ℕ). digits_below n (number / u)) one
      ∙ ap (λ (m : ℕ). digits_below n m) whole
      ∙ sym (take_all left (digits_below n number) (omega (arith, length-digits_below n number)))
]

ones_below : (n k : ℕ) → k ≤ n → digits_below k (2 ^ n - 1) ≡ replicate k true
ones_below n zero le = refl
ones_below n (suc k) le = ap (λ (d : ℕ). (d == 1) ∷ digits_below k (2 ^ n - 1)) (bit_at_ones n k (omega arith)) ∙ ap (λ (t : List Bool). true ∷ t) (ones_below n k (omega arith))

pub digits_ones : (n : ℕ) → digits_below n (2 ^ n - 1) ≡ replicate n true
digits_ones n = ones_below n n (omega arith)

-- a bit of a number, behind a zero
two_digits : (d : ℕ) → d < 2 → digits_below 2 d ≡ false ∷ (d == 1) ∷ []
two_digits zero lt = refl
two_digits (suc zero) lt = refl
two_digits (suc (suc d)) lt = absurd (omega arith)

pub zero_and_bit : (n k : ℕ) → digits_below 2 (bit_and (n / 2 ^ k) 1) ≡ false ∷ bit n k ∷ []
zero_and_bit n k = ap (digits_below 2) (shr_and_one n k) ∙ two_digits (bit_at n k) (bit_at-lt n k)

-- ---- powers

pub unit_is : (n : ℕ) → n < 64 → 1 * 2 ^ n % 18446744073709551616 ≡ 2 ^ n
unit_is n lt =
    let small : 2 ^ n ≤ 2 ^ 63 = pow-le-pow_right {n = 2} (omega arith) {i = n} {j = 63} (omega arith) in
    omega (arith, small)

pub high_part_fits : (a c n : ℕ) → n < 2 ^ (a + c) → n / 2 ^ c < 2 ^ a
high_part_fits a c n lt = div_below n (2 ^ c) (2 ^ a) (pow_pos c) (subst (λ (m : ℕ). n < m) (pow-add 2 a c) lt)

pub joined_fits : (a c q r : ℕ) → q < 2 ^ a → r < 2 ^ c → q * 2 ^ c + r < 2 ^ (a + c)
joined_fits a c q r high low =
    let turned : c + a ≡ a + c = omega arith in
    subst (λ (m : ℕ). q * 2 ^ c + r < m) (sym (pow-add 2 c a) ∙ ap (λ (n : ℕ). 2 ^ n) turned) (mul-add-lt q (2 ^ c) r (2 ^ a) high low)

-- ---- bytes

byte_low : (m : ℕ) → digits_below 8 (m % 256) ≡ digits_below 8 m
byte_low m = sym (digits_low 8 (m / 256) (m % 256) 8 (omega arith)) ∙ ap (digits_below 8) (shr_split m 8)

bytes_power : (k : ℕ) → 256 ^ k ≡ 2 ^ (8 * k)
bytes_power zero = refl
bytes_power (suc k) =
    let up : 8 * suc k ≡ 8 + 8 * k = omega arith in
    omega (arith, bytes_power k, pow-add 2 8 (8 * k), ap (λ (n : ℕ). 2 ^ n) up)

byte_digits : (k n : ℕ) → digits_below 8 (byte_at k n) ≡ digits_below 8 (n / 2 ^ (8 * k))
byte_digits zero n =
    let whole : n / 1 ≡ n = omega arith in
    byte_low n ∙ sym (ap (digits_below 8) whole)
byte_digits (suc k) n = byte_low (n / 256 ^ suc k) ∙ ap (λ (m : ℕ). digits_below 8 (n / m)) (bytes_power (suc k))

-- the bits of the last bytes of a number
word_bits : (k n : ℕ) → bits_of (bytes_high_first k n) ≡ digits_below (8 * k) n
word_bits zero n = refl
word_bits (suc k) n =
    let more : 8 * suc k ≡ 8 + 8 * k = omega arith in
    let top : digits_below 8 (byte_at k n) ≡ digits_below 8 (n / 2 ^ (8 * k)) = byte_digits k n in
    let low : digits_below (8 * k) (n % 2 ^ (8 * k)) ≡ digits_below (8 * k) n =
    sym (digits_low (8 * k) (n / 2 ^ (8 * k)) (n % 2 ^ (8 * k)) (8 * k) (omega arith)) ∙ ap (digits_below (8 * k)) (shr_split n (8 * k))
    in
    ap (λ (t : List Bool). digits_below 8 (byte_at k n) ++ t) (word_bits k n)
    ∙ ap (λ (t : List Bool). t ++ digits_below (8 * k) n) top
    ∙ ap (λ (t : List Bool). digits_below 8 (n / 2 ^ (8 * k)) ++ t) (sym low)
    ∙ sym (ap (λ (j : ℕ). digits_below j n) more ∙ digits_split 8 (8 * k) n)

-- ---- as many bytes of eight as are whole

-- the word that is stored
abbrev pub word_of : ℕ → ℕ → ℕ
word_of count number = number * 2 ^ 1 % 18446744073709551616 * 2 ^ (63 - count) % 18446744073709551616

-- the bits that wait stand first in it, and behind them zeros
word_digits : (count number : ℕ) → count < 64 → digits_below 64 (word_of count number) ≡ digits_below count number ++ (digits_below 1 0 ++ digits_below (63 - count) 0)
word_digits count number lt =
    let twice : ℕ = number * 2 ^ 1 % 18446744073709551616 in
    let k : ℕ = 63 - count in
    let all : 64 ≡ count + 1 + k = omega (arith, lt) in
    digits_mod 64 64 (twice * 2 ^ k) (omega arith)
    ∙ ap (λ (n : ℕ). digits_below 64 n) (let more : twice * 2 ^ k ≡ twice * 2 ^ k + 0 = omega arith in more)
    ∙ ap (λ (n : ℕ). digits_below n (twice * 2 ^ k + 0)) all
    ∙ digits_join (count + 1) k twice 0 (pow_pos k)
    ∙ ap (λ (t : List Bool). t ++ digits_below k 0)
    (digits_mod (count + 1) 64 (number * 2 ^ 1) (omega (arith, lt))
    ∙ ap (digits_below (count + 1)) (let more : number * 2 ^ 1 ≡ number * 2 ^ 1 + 0 = omega arith in more)
    ∙ digits_join count 1 number 0 (omega arith))
    ∙ append_assoc (digits_below count number) (digits_below 1 0) (digits_below k 0)

-- the first of its bits
word_front : (count number : ℕ) → count < 64 → take (8 * (count / 8)) (digits_below 64 (word_of count number)) ≡ digits_below (8 * (count / 8)) (number / 2 ^ (count % 8))
word_front count number lt =
    let k : ℕ = 8 * (count / 8) in
    let r : ℕ = count % 8 in
    let parts : count ≡ k + r = omega arith in
    let high = digits_below k (number / 2 ^ r) in
    let low = digits_below r (number % 2 ^ r) in
    let rest = digits_below 1 0 ++ digits_below (63 - count) 0 in
    let is : digits_below 64 (word_of count number) ≡ high ++ (low ++ rest) =
    word_digits count number lt
    ∙ ap (λ (n : ℕ). digits_below n number ++ rest) parts
    ∙ ap (λ (t : List Bool). t ++ rest) (digits_split k r number)
    ∙ append_assoc high low rest
    in
    ap (take k) is ∙ take_at high (low ++ rest) k (length-digits_below k (number / 2 ^ r))

length_word : (word : ℕ) → length (bytes_high_first 8 word) ≡ 8
length_word word = refl

-- the first of the first
pub shorter : {X : Type 0} (n m : ℕ) (xs : List X) → n ≤ m → take n (take m xs) ≡ take n xs
shorter zero m xs le = refl
shorter (suc n) zero xs le = absurd (omega (arith, le))
shorter (suc n) (suc m) [] le = refl
shorter (suc n) (suc m) (x ∷ xs) le = ap (λ t. x ∷ t) (shorter n m xs (omega (arith, le)))

pub whole_stored : (bytes unit rest : List ℕ) (whole count number most : ℕ) → whole ≤ length bytes → count < 64
    → count / 8 ≤ most → most ≤ 8 → unit ≡ take most (bytes_high_first 8 (word_of count number))
    → bits_so_far (take whole bytes ++ (unit ++ rest)) (record { whole = whole + count / 8; count = count % 8; number = number })
    ≡ bits_so_far bytes (record { whole = whole; count = count; number = number })
whole_stored bytes unit rest whole count number most inside lt few eight_most is =
    let n : ℕ = count / 8 in
    let r : ℕ = count % 8 in
    let word : ℕ = word_of count number in
    let low = digits_below r number in
    let parts : count ≡ 8 * n + r = omega arith in
    let eight : length unit ≡ most = ap (λ (t : List ℕ). length t) is ∙ length-take-le most (bytes_high_first 8 word) (omega (arith, eight_most, length_word word)) in
    let front : take (whole + n) (take whole bytes ++ (unit ++ rest)) ≡ take whole bytes ++ take n unit =
    take-add whole n (take whole bytes ++ (unit ++ rest))
    ∙ ap (λ (t : List ℕ). t ++ take n (drop whole (take whole bytes ++ (unit ++ rest)))) (take_at (take whole bytes) (unit ++ rest) whole (length-take-le whole bytes inside))
    ∙ ap (λ (t : List ℕ). take whole bytes ++ take n t) (drop_at (take whole bytes) (unit ++ rest) whole (length-take-le whole bytes inside))
    ∙ ap (λ (t : List ℕ). take whole bytes ++ t) (take-append-le n unit rest (omega (arith, eight, lt)))
    in
    let stored : bits_of (take n unit) ≡ digits_below (8 * n) (number / 2 ^ r) =
    ap (λ (t : List ℕ). bits_of (take n t)) is
    ∙ ap bits_of (shorter n most (bytes_high_first 8 word) few)
    ∙ bits_of-take n (bytes_high_first 8 word)
    ∙ ap (take (8 * n)) (word_bits 8 word)
    ∙ word_front count number lt
    in
    let both : digits_below (8 * n) (number / 2 ^ r) ++ low ≡ digits_below count number =
    sym
    (ap (λ (m : ℕ). digits_below m number) parts
    ∙ digits_split (8 * n) r number
    ∙ ap (λ (t : List Bool). digits_below (8 * n) (number / 2 ^ r) ++ t) (digits_mod r r number (omega arith)))
    in
    ap (λ (t : List ℕ). bits_of t ++ low) front
    ∙ ap (λ (t : List Bool). t ++ low) (bits_of-append (take whole bytes) (take n unit))
    ∙ append_assoc (bits_of (take whole bytes)) (bits_of (take n unit)) low
    ∙ ap (λ (t : List Bool). bits_of (take whole bytes) ++ (t ++ low)) stored
    ∙ ap (λ (t : List Bool). bits_of (take whole bytes) ++ t) both

-- ---- bits behind those that wait

-- what is left of a number in 64 bits that goes up by some
shifted_is : (number n : ℕ) → n < 64 → number * 2 ^ n % 18446744073709551616 ≡ number % 2 ^ (64 - n) * 2 ^ n
shifted_is number n lt =
    let u : ℕ = 2 ^ n in
    let w : ℕ = 2 ^ (64 - n) in
    let a : ℕ = number / w in
    let b : ℕ = number % w in
    let all : 64 - n + n ≡ 64 = omega (arith, lt) in
    let whole : w * u ≡ 2 ^ 64 = sym (pow-add 2 (64 - n) n) ∙ ap (λ (k : ℕ). 2 ^ k) all in
    let up : number * u ≡ a * (w * u) + b * u =
    mul_comm number u
    ∙ ap (λ (k : ℕ). u * k) (sym (shr_split number (64 - n)))
    ∙ mul-add u (a * w) b
    ∙ ap (λ (k : ℕ). k + u * b) (mul_comm u (a * w) ∙ mul_assoc a w u)
    ∙ ap (λ (k : ℕ). a * (w * u) + k) (mul_comm u b)
    in
    let small : b * u + 0 < 2 ^ (64 - n + n) = joined_fits (64 - n) n b 0 (let some = pow_pos (64 - n) in omega (arith, some)) (pow_pos n) in
    let below : b * u < 2 ^ 64 = omega (arith, small, ap (λ (k : ℕ). 2 ^ k) all) in
    ap (λ (k : ℕ). k % 18446744073709551616) (up ∙ ap (λ (k : ℕ). a * k + b * u) whole) ∙ mod-mul-add a 18446744073709551616 (b * u) below

pub shifted_fits : (number n text : ℕ) → n < 64 → text < 2 ^ n → number * 2 ^ n % 18446744073709551616 + text < 2 ^ 64
shifted_fits number n text lt small =
    let all : 64 - n + n ≡ 64 = omega (arith, lt) in
    let b : ℕ = number % 2 ^ (64 - n) in
    let fits : b * 2 ^ n + text < 2 ^ (64 - n + n) = joined_fits (64 - n) n b text (let some = pow_pos (64 - n) in omega (arith, some)) small in
    omega (arith, fits, ap (λ (k : ℕ). 2 ^ k) all, shifted_is number n lt)

pub shifted_digits : (count n number text : ℕ) → count + n < 64 → text < 2 ^ n → digits_below (count + n) (number * 2 ^ n % 18446744073709551616 + text) ≡ digits_below count number ++ digits_below n text
shifted_digits count n number text lt small =
    let b : ℕ = number % 2 ^ (64 - n) in
    ap (λ (k : ℕ). digits_below (count + n) (k + text)) (shifted_is number n (omega (arith, lt)))
    ∙ digits_join count n b text small
    ∙ ap (λ (t : List Bool). t ++ digits_below n text) (digits_mod count (64 - n) number (omega (arith, lt)))
