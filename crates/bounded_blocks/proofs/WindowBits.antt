-- The bits of a word: of eight bytes, shifted, and with ones put in.
use Rattle.std.proofs.Common.{◌≡◌, ℕ, zero, suc, ◌+◌, ◌-◌, ◌*◌, ◌/◌, ◌%◌, ◌^◌, ◌<◌, ◌≤◌, max, true, List, [], ◌∷◌, length, get_or, drop, refl, sym, ap, subst, ◌∙◌, inl, inr, arith}
use Rattle.std.specs.Int.{bit_at, from_be_bytes, w64}
use Rattle.std.specs.Prelude.{bit_or, ◌==◌}
use Rattle.std.proofs.lemmas.Bool.{cases_lt}
use Rattle.std.proofs.lemmas.Nat.{shr_split, pow_pos}
use Rattle.std.proofs.lemmas.Nat.Bits.{bit_at_or, bit_at_ones, bit_at_ones_above, bit_at_cat_low, bit_at_cat_high, ones_shr, bit_at-lt}
use Rattle.std.proofs.lemmas.List.{get_or-take, get_or-drop, get_or_past, length-take}
use Rattle.bit_codes.specs.Bits.{bit, bits_of}
use Rattle.bounded_blocks.specs.Parts.{block_of}
use Rattle.bounded_blocks.specs.Windows.{HasBytes}

-- ---- bytes

past_bit : (k : ℕ) → k < 8 → true ≡ bit 255 k
past_bit zero h = refl
past_bit (suc zero) h = refl
past_bit (suc (suc zero)) h = refl
past_bit (suc (suc (suc zero))) h = refl
past_bit (suc (suc (suc (suc zero)))) h = refl
past_bit (suc (suc (suc (suc (suc zero))))) h = refl
past_bit (suc (suc (suc (suc (suc (suc zero)))))) h = refl
past_bit (suc (suc (suc (suc (suc (suc (suc zero))))))) h = refl
past_bit (suc (suc (suc (suc (suc (suc (suc (suc k)))))))) h = absurd (omega arith)

-- Ones behind bits are bytes of 255 behind bytes.
pub get_or-bits_past : (bytes : List ℕ) (j : ℕ) → get_or (bits_of bytes) j true ≡ bit (get_or bytes (j / 8) 255) (7 - j % 8)
get_or-bits_past [] j = past_bit (7 - j % 8) (omega arith)
get_or-bits_past (b ∷ bytes) zero = refl
get_or-bits_past (b ∷ bytes) (suc zero) = refl
get_or-bits_past (b ∷ bytes) (suc (suc zero)) = refl
get_or-bits_past (b ∷ bytes) (suc (suc (suc zero))) = refl
get_or-bits_past (b ∷ bytes) (suc (suc (suc (suc zero)))) = refl
get_or-bits_past (b ∷ bytes) (suc (suc (suc (suc (suc zero))))) = refl
get_or-bits_past (b ∷ bytes) (suc (suc (suc (suc (suc (suc zero)))))) = refl
get_or-bits_past (b ∷ bytes) (suc (suc (suc (suc (suc (suc (suc zero))))))) = refl
get_or-bits_past (b ∷ bytes) (suc (suc (suc (suc (suc (suc (suc (suc j)))))))) =
    let next : (j + 8) / 8 ≡ suc (j / 8) = omega arith in
    let same : (j + 8) % 8 ≡ j % 8 = omega arith in
    let whole : suc (suc (suc (suc (suc (suc (suc (suc j))))))) ≡ j + 8 = omega arith in
    get_or-bits_past bytes j ∙ sym (ap (λ (k : ℕ). bit (get_or (b ∷ bytes) (k / 8) 255) (7 - k % 8)) whole ∙ ap (λ (k : ℕ). bit (get_or (b ∷ bytes) k 255) (7 - (j + 8) % 8)) next ∙ ap (λ (k : ℕ). bit (get_or bytes (j / 8) 255) (7 - k)) same)

-- ---- words

pub low_bit : (n k i : ℕ) → i < k → bit_at (n % 2 ^ k) i ≡ bit_at n i
low_bit n k i lt = sym (bit_at_cat_low (n / 2 ^ k) k (n % 2 ^ k) i lt) ∙ ap (λ (m : ℕ). bit_at m i) (shr_split n k)

-- a word shifted left
pub shifted_bit : (word by i : ℕ) → by + i < 64 → bit (word * 2 ^ by % 2 ^ 64) (63 - i) ≡ bit word (63 - (i + by))
shifted_bit word by i lt =
    let at : 63 - i - by ≡ 63 - (i + by) = omega arith in
    let none : word * 2 ^ by + 0 ≡ word * 2 ^ by = omega arith in
    ap (λ (b : ℕ). b == 1) (low_bit (word * 2 ^ by) 64 (63 - i) (omega arith) ∙ ap (λ (m : ℕ). bit_at m (63 - i)) (sym none) ∙ bit_at_cat_high word by 0 (63 - i) (pow_pos by) (omega arith) ∙ ap (bit_at word) at)

-- bytes behind a number
abbrev joined : ℕ → List ℕ → ℕ
joined m [] = m
joined m (b ∷ bytes) = joined (m * 2 ^ 8 + b) bytes

abbrev AreBytes : List ℕ → Type 0
AreBytes [] = Unit {0}
AreBytes (b ∷ bytes) = (b < 2 ^ 8) × AreBytes bytes

joined_above : (bytes : List ℕ) (m j : ℕ) → AreBytes bytes → bit_at (joined m bytes) (8 * length bytes + j) ≡ bit_at m j
joined_above [] m j all = let e : 8 * 0 + j ≡ j = omega arith in ap (bit_at m) e
joined_above (b ∷ bytes) m j all =
    let at : 8 * length (b ∷ bytes) + j ≡ 8 * length bytes + (8 + j) = omega arith in
    let back : 8 + j - 8 ≡ j = omega arith in
    ap (bit_at (joined (m * 2 ^ 8 + b) bytes)) at ∙ joined_above bytes (m * 2 ^ 8 + b) (8 + j) all.1 ∙ bit_at_cat_high m 8 b (8 + j) all.0 (omega arith) ∙ ap (bit_at m) back

joined_bit : (bytes : List ℕ) (m i : ℕ) → AreBytes bytes → i < 8 * length bytes → bit (joined m bytes) (8 * length bytes - 1 - i) ≡ bit (get_or bytes (i / 8) 255) (7 - i % 8)
joined_bit [] m i all lt = absurd (omega arith)
joined_bit (b ∷ bytes) m i all lt = elim (cases_lt i 8) [
  | inl here ↦
      let at : 8 * length (b ∷ bytes) - 1 - i ≡ 8 * length bytes + (7 - i) = omega arith in
      let first : i / 8 ≡ 0 = omega arith in
      let same : 7 - i ≡ 7 - i % 8 = omega arith in
      ap (bit (joined (m * 2 ^ 8 + b) bytes)) at ∙ ap (λ (d : ℕ). d == 1) (joined_above bytes (m * 2 ^ 8 + b) (7 - i) all.1 ∙ bit_at_cat_low m 8 b (7 - i) (omega arith))
      ∙ ap (bit b) same ∙ ap (λ (q : ℕ). bit (get_or (b ∷ bytes) q 255) (7 - i % 8)) (sym first)
  | inr later ↦
      let at : 8 * length (b ∷ bytes) - 1 - i ≡ 8 * length bytes - 1 - (i - 8) = omega arith in
      let next : i / 8 ≡ suc ((i - 8) / 8) = omega arith in
      let same : (i - 8) % 8 ≡ i % 8 = omega arith in
      ap (bit (joined (m * 2 ^ 8 + b) bytes)) at ∙ joined_bit bytes (m * 2 ^ 8 + b) (i - 8) all.1 (omega arith)
      ∙ ap (λ (r : ℕ). bit (get_or bytes ((i - 8) / 8) 255) (7 - r)) same ∙ ap (λ (q : ℕ). bit (get_or (b ∷ bytes) q 255) (7 - i % 8)) (sym next)
]

-- eight bytes as a number
word_joined : (a b c d e f g h : ℕ) → from_be_bytes w64 (a ∷ b ∷ c ∷ d ∷ e ∷ f ∷ g ∷ h ∷ []) ≡ joined 0 (a ∷ b ∷ c ∷ d ∷ e ∷ f ∷ g ∷ h ∷ [])
word_joined a b c d e f g h = omega arith

eight_joined : (eight : List ℕ) → length eight ≡ 8 → from_be_bytes w64 eight ≡ joined 0 eight
eight_joined (a ∷ b ∷ c ∷ d ∷ e ∷ f ∷ g ∷ h ∷ []) long = word_joined a b c d e f g h
eight_joined [] long = absurd (omega arith)
eight_joined (a ∷ []) long = absurd (omega arith)
eight_joined (a ∷ b ∷ []) long = absurd (omega arith)
eight_joined (a ∷ b ∷ c ∷ []) long = absurd (omega arith)
eight_joined (a ∷ b ∷ c ∷ d ∷ []) long = absurd (omega arith)
eight_joined (a ∷ b ∷ c ∷ d ∷ e ∷ []) long = absurd (omega arith)
eight_joined (a ∷ b ∷ c ∷ d ∷ e ∷ f ∷ []) long = absurd (omega arith)
eight_joined (a ∷ b ∷ c ∷ d ∷ e ∷ f ∷ g ∷ []) long = absurd (omega arith)
eight_joined (a ∷ b ∷ c ∷ d ∷ e ∷ f ∷ g ∷ h ∷ i ∷ more) long = absurd (omega arith)

are_bytes : (bytes : List ℕ) → ((j : ℕ) → get_or bytes j 255 < 256) → AreBytes bytes
are_bytes [] all = tt
are_bytes (b ∷ bytes) all = (omega (arith, all 0), are_bytes bytes (λ j. all (suc j)))

byte_below : (bytes : List ℕ) (j : ℕ) → ((k : ℕ) → get_or bytes k 0 < 256) → get_or bytes j 255 < 256
byte_below [] j all = omega arith
byte_below (b ∷ bytes) zero all = all 0
byte_below (b ∷ bytes) (suc j) all = byte_below bytes j (λ k. all (suc k))

eight_below : (bytes eight : List ℕ) (index j : ℕ) → HasBytes bytes index eight → ((k : ℕ) → get_or bytes k 0 < 256) → get_or eight j 255 < 256
eight_below bytes eight index j has all = elim (cases_lt j 8) [
  | inl inside ↦ subst (λ (b : ℕ). b < 256) (sym (has.same j inside)) (byte_below bytes (index + j) all)
  | inr past ↦ subst (λ (b : ℕ). b < 256) (sym (get_or_past eight j 255 (omega (arith, has.count)))) (omega arith)
]

-- a word of eight bytes shows the bits from its first byte on, ones past the end
pub word_bit : (bytes eight : List ℕ) (word index i : ℕ) → ((j : ℕ) → get_or bytes j 0 < 256) → HasBytes bytes index eight → word ≡ from_be_bytes w64 eight → i < 64
    → bit word (63 - i) ≡ get_or (bits_of bytes) (8 * index + i) true
word_bit bytes eight word index i all has is lt =
    let at : 63 - i ≡ 8 * length eight - 1 - i = omega (arith, has.count) in
    let byte : index + i / 8 ≡ (8 * index + i) / 8 = omega arith in
    let place : i % 8 ≡ (8 * index + i) % 8 = omega arith in
    ap (λ (w : ℕ). bit w (63 - i)) (is ∙ eight_joined eight has.count)
    ∙ ap (bit (joined 0 eight)) at ∙ joined_bit eight 0 i (are_bytes eight (λ j. eight_below bytes eight index j has all)) (omega (arith, has.count))
    ∙ ap (λ (b : ℕ). bit b (7 - i % 8)) (has.same (i / 8) (omega arith))
    ∙ ap (λ (q : ℕ). bit (get_or bytes q 255) (7 - i % 8)) byte
    ∙ ap (λ (r : ℕ). bit (get_or bytes ((8 * index + i) / 8) 255) (7 - r)) place
    ∙ sym (get_or-bits_past bytes (8 * index + i))

-- ---- a block

-- a bit of a block, or of the ones behind it
pub block_bit : (bytes : List ℕ) (place end i : ℕ) → i < end - place → get_or (block_of bytes place end) i true ≡ get_or (bits_of bytes) (place + i) true
block_bit bytes place end i lt = get_or-take (end - place) (drop place (bits_of bytes)) i true lt ∙ get_or-drop place (bits_of bytes) i true

pub block_bit_past : (bytes : List ℕ) (place end i : ℕ) → end - place ≤ i → get_or (block_of bytes place end) i true ≡ true
block_bit_past bytes place end i le = get_or_past (block_of bytes place end) i true (omega (arith, length-take (end - place) (drop place (bits_of bytes)), le))

-- the bits of eight bytes from a place on
pub placed_bit : (bytes eight : List ℕ) (word place i : ℕ) → ((j : ℕ) → get_or bytes j 0 < 256) → HasBytes bytes (place / 8) eight → word ≡ from_be_bytes w64 eight → i < 57
    → bit (word * 2 ^ (place % 8) % 2 ^ 64) (63 - i) ≡ get_or (bits_of bytes) (place + i) true
placed_bit bytes eight word place i all has is lt =
    let at : 8 * (place / 8) + (i + place % 8) ≡ place + i = omega arith in
    shifted_bit word (place % 8) i (omega arith) ∙ word_bit bytes eight word (place / 8) (i + place % 8) all has is (omega arith) ∙ ap (λ (n : ℕ). get_or (bits_of bytes) n true) at

-- with ones put in from a place on
max_one : (n i : ℕ) → max (bit_at n i) 1 ≡ 1
max_one n i = omega (arith, bit_at-lt n i)

max_none : (n i : ℕ) → max (bit_at n i) 0 ≡ bit_at n i
max_none n i = omega arith

mask_is : (left : ℕ) → left < 64 → 18446744073709551615 / 2 ^ left ≡ 2 ^ (64 - left) - 1
mask_is left lt = ones_shr 64 left (omega arith)

pub kept_bit : (word left i : ℕ) → left < 64 → i < left → bit (bit_or word (18446744073709551615 / 2 ^ left)) (63 - i) ≡ bit word (63 - i)
kept_bit word left i lt inside =
    ap (λ (m : ℕ). bit (bit_or word m) (63 - i)) (mask_is left lt)
    ∙ ap (λ (b : ℕ). b == 1) (bit_at_or word (2 ^ (64 - left) - 1) (63 - i) ∙ ap (max (bit_at word (63 - i))) (bit_at_ones_above (64 - left) (63 - i) (omega arith)) ∙ max_none word (63 - i))

pub put_bit : (word left i : ℕ) → left < 64 → left ≤ i → i < 64 → bit (bit_or word (18446744073709551615 / 2 ^ left)) (63 - i) ≡ true
put_bit word left i lt past small =
    ap (λ (m : ℕ). bit (bit_or word m) (63 - i)) (mask_is left lt)
    ∙ ap (λ (b : ℕ). b == 1) (bit_at_or word (2 ^ (64 - left) - 1) (63 - i) ∙ ap (max (bit_at word (63 - i))) (bit_at_ones (64 - left) (63 - i) (omega arith)) ∙ max_one word (63 - i))
