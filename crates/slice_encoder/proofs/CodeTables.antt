-- The tables of codes: how an entry is read, and the tables as far as they are made.
use Rattle.std.proofs.Common.{◌≡◌, ◌∙◌, ℕ, zero, suc, ◌+◌, ◌*◌, ◌/◌, ◌%◌, ◌^◌, ◌<◌, ◌≤◌, Bool, List, ◌++◌, length, take, set, get_or, refl, sym, ap, subst, arith, inl, inr, ℤ, pos, negsuc}
use Rattle.std.specs.Prelude.{◌-ℤ◌, ◌+ℤ◌, unsigned_abs}
use Rattle.std.proofs.lemmas.Bool.{cases_eq, cases_lt, lt-ltb, le-ltb}
use Rattle.std.proofs.lemmas.Int.{ints}
use Rattle.std.proofs.lemmas.List.{get_or-set_same, get_or-set_other, get_or-map, length-append, take-map}
use Rattle.std.proofs.Math.Nat.{pow-le-pow_right}
use Rattle.bit_codes.specs.Bits.{digits_below}
use Rattle.bit_codes.specs.Codes.{signed_code_of}
use Rattle.bit_codes.proofs.CodeOf.{length-digits_below}
use Rattle.slice_encoder.specs.declared.code_texts.Text.{Text}
use Rattle.slice_encoder.specs.declared.code_texts.SplitText.{SplitText}
use Rattle.slice_encoder.specs.CodeTexts.{text_bits, IsSplitCode}
use Rattle.slice_encoder.specs.CodeTables.{IsEntry, IsPairEntry, place_of, ArePlaces}

-- one entry more, in its place
pub entries_more : (Is : ℕ → ℕ → Type 0) (entries : List ℕ) (place e : ℕ) → place < length entries → Is place e → ((p : ℕ) → p < place → Is p (get_or entries p 0)) → (p : ℕ) → p < place + 1 → Is p (get_or (set entries place e) p 0)
entries_more Is entries place e lt here so_far p below = elim (cases_eq p place) [
  | inl same ↦ subst (λ (n : ℕ). Is n (get_or (set entries place e) n 0)) (sym same) (subst (Is place) (sym (get_or-set_same entries place e 0 lt)) here)
  | inr other ↦ subst (Is p) (sym (get_or-set_other entries place p e 0 other)) (so_far p (omega (arith, below, other)))
]

-- a text of at most 24 digits is below 2^24
pub entry_small : (n k : ℕ) → n < 2 ^ k → k ≤ 24 → n < 2 ^ 24
entry_small n k lt le =
    let two : 0 < 2 = omega arith in
    omega (arith, lt, pow-le-pow_right {n = 2} two {i = k} {j = 24} le)

-- a text as an entry, and back
pub entry_is : (t : Text) → t.length ≤ 24 → t.number < 2 ^ t.length → IsEntry (256 * t.number + t.length) (text_bits t)
entry_is t few small =
    let length : (256 * t.number + t.length) % 256 ≡ t.length = omega (arith, few) in
    let number : (256 * t.number + t.length) / 256 ≡ t.number = omega (arith, few) in
    record {
      digits = ap (λ (k : ℕ). digits_below k ((256 * t.number + t.length) / 256)) length ∙ ap (digits_below t.length) number;
      few = omega (arith, few, length);
      number = subst (λ (k : ℕ). (256 * t.number + t.length) / 256 < 2 ^ k) (sym length) (omega (arith, number, small));
    }

-- an entry of two places whose length is that of a text
pub some_pair : (entry first second : ℕ) → IsPairEntry entry first second → entry % 256 < 255
    → (0 < first) × (0 < second) × IsEntry entry (signed_code_of (pos first -ℤ pos 32) ++ signed_code_of (pos second -ℤ pos 32))
some_pair entry zero second is short = absurd (omega (arith, is, short))
some_pair entry (suc a) zero is short = absurd (omega (arith, is, short))
some_pair entry (suc a) (suc b) is short = (omega arith, omega arith, is)

-- two places that aren't 0
pub pair_is : (entry first second : ℕ) → 0 < first → 0 < second → IsEntry entry (signed_code_of (pos first -ℤ pos 32) ++ signed_code_of (pos second -ℤ pos 32)) → IsPairEntry entry first second
pair_is entry zero second f s is = absurd (omega (arith, f))
pair_is entry (suc a) zero f s is = absurd (omega (arith, s))
pair_is entry (suc a) (suc b) f s is = is

pub none_first : (second : ℕ) → IsPairEntry 255 0 second
none_first second = refl

pub none_second : (first : ℕ) → IsPairEntry 255 first 0
none_second zero = refl
none_second (suc a) = refl

-- how long an entry's text is
pub entry_length : (entry : ℕ) (text : List Bool) → IsEntry entry text → entry % 256 ≡ length text
entry_length entry text is = sym (length-digits_below (entry % 256) (entry / 256)) ∙ ap (λ (t : List Bool). length t) is.digits

-- how long a code is that stands in two texts
pub split_length : (t : SplitText) (v : ℤ) → IsSplitCode t v → t.front.length + t.back.length ≡ length (signed_code_of v)
split_length t v is =
    omega (
      arith,
      ap (λ (x : List Bool). length x) is.text,
      length-append (text_bits t.front) (text_bits t.back),
      length-digits_below t.front.length t.front.number,
      length-digits_below t.back.length t.back.number,
    )

-- ---- places

place_below : (v : ℤ) → place_of v < 64
place_below v = elim (cases_lt (unsigned_abs v) 32) as (λ _. place_of v < 64) [
  | inl small ↦ rw (lt-ltb (unsigned_abs v) 32 small) (near v small)
  | inr large ↦ rw (le-ltb (unsigned_abs v) 32 large) (omega arith)
]
  where
    near : (v : ℤ) → unsigned_abs v < 32 → unsigned_abs (v +ℤ pos 32) < 64
    near (pos n) small = omega (arith, ints)
    near (negsuc n) small = omega (arith, ints)

place_value : (v : ℤ) → 0 < place_of v → pos (place_of v) -ℤ pos 32 ≡ v
place_value v some = elim (cases_lt (unsigned_abs v) 32) as (λ _. pos (place_of v) -ℤ pos 32 ≡ v) [
  | inl small ↦ rw (lt-ltb (unsigned_abs v) 32 small) (near v small)
  | inr large ↦ absurd (let none : place_of v ≡ 0 = rw (le-ltb (unsigned_abs v) 32 large) refl in omega (arith, some, none))
]
  where
    near : (v : ℤ) → unsigned_abs v < 32 → pos (unsigned_abs (v +ℤ pos 32)) -ℤ pos 32 ≡ v
    near (pos n) small = omega (arith, ints)
    near (negsuc n) small = omega (arith, ints)

place_at : (values : List ℤ) (places : List ℕ) → ArePlaces values places → (n : ℕ) → n < length values → get_or places n 0 ≡ place_of (get_or values n (pos 0))
place_at values places are n lt = ap (λ (l : List ℕ). get_or l n 0) are ∙ get_or-map place_of values n (pos 0) 0 lt

pub places_below : (values : List ℤ) (places : List ℕ) → ArePlaces values places → (n : ℕ) → n < length values → get_or places n 0 < 64
places_below values places are n lt = omega (arith, place_at values places are n lt, place_below (get_or values n (pos 0)))

pub places_front : (values : List ℤ) (places : List ℕ) (n : ℕ) → ArePlaces values places → ArePlaces (take n values) (take n places)
places_front values places n are = ap (take n) are ∙ take-map place_of n values

-- the entry of two values' places, if it has a text, is that of their codes
pub pair_entry_is : (values : List ℤ) (places : List ℕ) (entry n m : ℕ) → ArePlaces values places → n < length values → m < length values → IsPairEntry entry (get_or places n 0) (get_or places m 0) → entry % 256 < 255
    → IsEntry entry (signed_code_of (get_or values n (pos 0)) ++ signed_code_of (get_or values m (pos 0)))
pair_entry_is values places entry n m are low high is short =
    let v = get_or values n (pos 0) in
    let w = get_or values m (pos 0) in
    let first = place_at values places are n low in
    let second = place_at values places are m high in
    let p = subst (λ (k : ℕ). IsPairEntry entry (place_of v) k) second (subst (λ (k : ℕ). IsPairEntry entry k (get_or places m 0)) first is) in
    let some = some_pair entry (place_of v) (place_of w) p short in
    subst (λ (z : ℤ). IsEntry entry (signed_code_of z ++ signed_code_of w)) (place_value v some.0)
    (subst (λ (z : ℤ). IsEntry entry (signed_code_of (pos (place_of v) -ℤ pos 32) ++ signed_code_of z)) (place_value w some.1) some.2)
