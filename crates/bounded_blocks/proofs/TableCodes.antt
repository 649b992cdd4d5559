-- Codes in the last bits of a number.
use Rattle.std.proofs.Common.{◌≡◌, ◌≢◌, inl, inr, slice_set, ℕ, zero, suc, ◌+◌, ◌-◌, ◌*◌, ◌/◌, ◌%◌, ◌^◌, ◌<◌, ◌≤◌, Bool, true, false, List, [], ◌∷◌, ◌++◌, length, get_or, take, drop, refl, sym, ap, subst, ◌∙◌, arith}
use Rattle.std.specs.Prelude.{unsigned_abs, ℤ, pos, negsuc, if◌then◌else◌, ◌==◌}
use Rattle.bit_codes.specs.Bits.{bit, digit, digits_below}
use Rattle.bit_codes.proofs.CodeOf.{length-digits_below}
use Rattle.bounded_blocks.specs.Reading.{magnitude_from, with_sign}
use Rattle.bounded_blocks.specs.ShortCodes.{BeginsBits}
use Rattle.bounded_blocks.specs.Parts.{IsSmall, ReadsValues, AreWithin}
use Rattle.bounded_blocks.specs.CodeTable.{IsSigned, Begin, codes_of, no_head}
use Rattle.bounded_blocks.specs.declared.code_table.Codes.{Codes}
use Rattle.bounded_blocks.specs.declared.code_table.Head.{Head}
use Rattle.bounded_blocks.proofs.ReadLemmas.{Reads-join, Reads-one}
use Rattle.std.proofs.lemmas.List.{take_more_set, get_or-set_same, get_or-set_other}
use Rattle.std.proofs.lemmas.Bool.{cases_eq}
use Rattle.bounded_blocks.specs.declared.short_codes.ShortCode.{ShortCode}

-- without its first digits
pub drop-digits : (j k n : ℕ) → j ≤ k → drop j (digits_below k n) ≡ digits_below (k - j) n
drop-digits zero k n le = let none : k ≡ k - 0 = omega arith in ap (λ (i : ℕ). digits_below i n) none
drop-digits (suc j) zero n le = absurd (omega arith)
drop-digits (suc j) (suc k) n le = let less : k - j ≡ suc k - suc j = omega arith in drop-digits j k n (omega arith) ∙ ap (λ (i : ℕ). digits_below i n) less

-- a magnitude above 0 takes the sign of the next digit
pub signed-next : (magnitude left bits word : ℕ) (b : Bool) (v : ℤ) (rest : List Bool) → 0 < magnitude → 0 < left → left ≤ bits → bit word (left - 1) ≡ b
    → v ≡ (with_sign magnitude (b ∷ [])).0
    → with_sign magnitude (digits_below left word ++ rest) ≡ (v, digits_below (bits - (bits - left + 1)) word ++ rest)
signed-next zero left bits word b v rest some more le e f = absurd (omega arith)
signed-next (suc m) zero bits word b v rest some more le e f = absurd (omega arith)
signed-next (suc m) (suc l) bits word b v rest some more le e f =
    let at : l ≡ bits - (bits - suc l + 1) = omega arith in
    let here : l ≡ suc l - 1 = omega arith in
    let behind = digits_below l word ++ rest in
    let signed : (if bit word l then negsuc m else pos (suc m)) ≡ v = ap (λ (x : Bool). if x then negsuc m else pos (suc m)) (ap (bit word) here ∙ e) ∙ sym f in
    let there : (v, behind) ≡ (v, digits_below (bits - (bits - suc l + 1)) word ++ rest) = ap (λ (k : ℕ). (v, digits_below k word ++ rest)) at in
    ap (λ (z : ℤ). (z, behind)) signed ∙ there

-- the digit of a number in place k
pub digit-at : (n k : ℕ) → n / 2 ^ k % 2 ≡ digit (bit n k)
digit-at n k = go (n / 2 ^ k % 2) (omega arith)
  where
    go : (d : ℕ) → d ≤ 1 → d ≡ digit (d == 1)
    go zero le = refl
    go (suc zero) le = refl
    go (suc (suc d)) le = absurd (omega arith)

-- a 0 and the digit behind it make the number greater
pub one_more : (number left word : ℕ) (rest : List Bool) → 2 ≤ left → word / 2 ^ (left - 1) % 2 ≡ 0
    → magnitude_from number (digits_below left word ++ rest) ≡ magnitude_from (2 * number + word / 2 ^ (left - 2) % 2) (digits_below (left - 2) word ++ rest)
one_more number zero word rest two none = absurd (omega arith)
one_more number (suc zero) word rest two none = absurd (omega arith)
one_more number (suc (suc l)) word rest two none =
    let here : suc l ≡ suc (suc l) - 1 = omega arith in
    let next : l ≡ suc (suc l) - 2 = omega arith in
    let first : bit word (suc l) ≡ false = ap (bit word) here ∙ ap (λ (d : ℕ). d == 1) none in
    ap (λ (x : Bool). magnitude_from number (x ∷ bit word l ∷ (digits_below l word ++ rest))) first
    ∙ ap (λ (d : ℕ). magnitude_from (2 * number + d) (digits_below l word ++ rest)) (sym (digit-at word l))
    ∙ ap (λ (k : ℕ). magnitude_from (2 * number + word / 2 ^ k % 2) (digits_below k word ++ rest)) next

-- a 1 ends the number
pub ended : (number left word : ℕ) (rest : List Bool) → 1 ≤ left → word / 2 ^ (left - 1) % 2 ≡ 1
    → magnitude_from number (digits_below left word ++ rest) ≡ (number - 1, digits_below (left - 1) word ++ rest)
ended number zero word rest one is = absurd (omega arith)
ended number (suc l) word rest one is =
    let here : l ≡ suc l - 1 = omega arith in
    let first : bit word l ≡ true = ap (bit word) here ∙ ap (λ (d : ℕ). d == 1) is in
    ap (λ (x : Bool). magnitude_from number (x ∷ (digits_below l word ++ rest))) first ∙ ap (λ (k : ℕ). (number - 1, digits_below k word ++ rest)) here

-- the code that a number's digits begin with
pub code-begins : (code : ShortCode) (number left bits word : ℕ) → ((rest : List Bool) → magnitude_from 1 (digits_below bits word ++ rest) ≡ magnitude_from number (digits_below left word ++ rest))
    → 1 ≤ left → word / 2 ^ (left - 1) % 2 ≡ 1 → IsSigned (number - 1) word (left - 1) bits code → BeginsBits code (digits_below bits word)
code-begins code number left bits word same one is signed some =
    let q = signed some in (
      omega (arith, q.0, length-digits_below bits word),
      λ rest.
          ap (λ (x : ℕ × List Bool). with_sign x.0 x.1) (same rest ∙ ended number left word rest one is) ∙ q.1 rest
          ∙ ap (λ (x : List Bool). (code.value, x ++ rest)) (sym (drop-digits code.length bits word q.0)),
    )

-- codes that were read one after another
pub codes-begin : (codes : Codes) (k word : ℕ) → codes.count ≤ 8 → codes.length ≤ k → AreWithin 127 codes.values
    → ((rest : List Bool) → ReadsValues codes.count (digits_below k word ++ rest) (take codes.count codes.values) (digits_below (k - codes.length) word ++ rest))
    → Begin codes (digits_below k word)
codes-begin codes k word few short low read = (
  few,
  omega (arith, short, length-digits_below k word),
  low,
  λ rest.
      subst (λ (x : List Bool). ReadsValues codes.count (digits_below k word ++ rest) (take codes.count codes.values) (x ++ rest)) (sym (drop-digits codes.length k word short)) (read rest),
)

-- a low value in the place of another
pub low_set : (vs : List ℤ) (n : ℕ) (v : ℤ) → AreWithin 127 vs → unsigned_abs v ≤ 127 → AreWithin 127 (slice_set vs n v)
low_set [] n v all low = all
low_set (x ∷ vs) zero v all low = (low, all.1)
low_set (x ∷ vs) (suc n) v all low = (all.0, low_set vs n v all.1 low)

-- one code more
pub one_code_more : (k n length_before word : ℕ) (vs : List ℤ) (code : ShortCode) (v : ℤ) → n < length vs → v ≡ code.value → IsSmall code.value → length_before ≤ k
    → BeginsBits code (digits_below (k - length_before) word) → code.length ≢ 0
    → ((rest : List Bool) → ReadsValues n (digits_below k word ++ rest) (take n vs) (digits_below (k - length_before) word ++ rest))
    → (length_before + code.length ≤ k)
    × ((rest : List Bool) → ReadsValues (n + 1) (digits_below k word ++ rest) (take (n + 1) (slice_set vs n v)) (digits_below (k - (length_before + code.length)) word ++ rest))
one_code_more k n length_before word vs code v room is small le begins some read =
    let q = begins some in
    let left = k - length_before in
    let within : code.length ≤ left = omega (arith, q.0, length-digits_below left word) in
    let same : left - code.length ≡ k - (length_before + code.length) = omega arith in (
      omega (arith, within),
      λ rest.
          let mid = digits_below left word ++ rest in
          let behind = digits_below (k - (length_before + code.length)) word ++ rest in
          let there : drop code.length (digits_below left word) ++ rest ≡ behind =
          ap (λ (x : List Bool). x ++ rest) (drop-digits code.length left word within ∙ ap (λ (j : ℕ). digits_below j word) same) in
          let value = ap (λ (x : ℤ × List Bool). x.0) (q.1 rest) in
          let one : ReadsValues 1 mid (v ∷ []) behind = Reads-one mid behind v (is ∙ sym value) (subst IsSmall (sym value) small) (ap (λ (x : ℤ × List Bool). x.1) (q.1 rest) ∙ there) in
          let both = Reads-join n 1 (digits_below k word ++ rest) mid behind (take n vs) (v ∷ []) (read rest) one in
          subst (λ (x : List ℤ). ReadsValues (n + 1) (digits_below k word ++ rest) x behind) (sym (take_more_set vs n v room)) both,
    )

-- one entry more
pub entry_more : (values : List (List ℤ)) (heads : List Head) (k : ℕ) (new : List ℤ) (head : Head) → k < length values → k < length heads
    → Begin (codes_of new head) (digits_below 12 k)
    → ((j : ℕ) → j < k → Begin (codes_of (get_or values j []) (get_or heads j no_head)) (digits_below 12 j))
    → (j : ℕ) → j < k + 1 → Begin (codes_of (get_or (slice_set values k new) j []) (get_or (slice_set heads k head) j no_head)) (digits_below 12 j)
entry_more values heads k new head room room' here before j below =
    let begins = λ (vs : List ℤ) (h : Head) (i : ℕ). Begin (codes_of vs h) (digits_below 12 i) in elim (cases_eq j k) [
      | inl e ↦ subst (λ (i : ℕ). begins (get_or (slice_set values k new) i []) (get_or (slice_set heads k head) i no_head) i) (sym e)
          (subst (λ (vs : List ℤ). begins vs (get_or (slice_set heads k head) k no_head) k) (sym (get_or-set_same values k new [] room))
          (subst (λ (h : Head). begins new h k) (sym (get_or-set_same heads k head no_head room')) here))
      | inr ne ↦ subst (λ (vs : List ℤ). begins vs (get_or (slice_set heads k head) j no_head) j) (sym (get_or-set_other values k j new [] ne))
          (subst (λ (h : Head). begins (get_or values j []) h j) (sym (get_or-set_other heads k j head no_head ne)) (before j (omega arith)))
    ]
