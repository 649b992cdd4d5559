-- What limits tell of values place by place, and of the list.
use Rattle.std.proofs.Common.{◌≡◌, ◌≢◌, ◌∙◌, ap, refl, sym, subst, ℕ, zero, suc, ◌+◌, ◌-◌, ◌*◌, ◌<◌, ◌≤◌, Bool, true, false, ◌⊎◌, List, length, take, get_or, arith, inl, inr, ℤ, pos}
use Rattle.std.specs.Prelude.{int_lt, if◌then◌else◌}
use Rattle.std.proofs.lemmas.Bool.{cases_eq}
use Rattle.std.proofs.lemmas.List.{length-append, take_all}
use Rattle.std.proofs.lemmas.List.{get_or_default}
use Rattle.planes.specs.Valued.{valued}
use Rattle.bit_codes.specs.Codes.{signed_code_of}
use Rattle.bounded_blocks.specs.Writing.{codes_of}
use Rattle.bounded_blocks.proofs.CodeLengths.{codes_of-next}
use Rattle.slice_encoder.specs.declared.looks.Look.{Look}
use Rattle.slice_encoder.specs.Looks.{passes, above, last_above, all_above, Counts, IsLook}
use Rattle.slice_encoder.proofs.Passing.{bit, passed_here, IsToldBy}

cases_bool : (b : Bool) → (b ≡ true) ⊎ (b ≡ false)
cases_bool true = inl refl
cases_bool false = inr refl

passes_most : (a b : ℤ) → passes a b ≤ 1
passes_most a b = elim (cases_bool (int_lt a b)) [
  | inl here ↦ omega (arith, ap bit here)
  | inr nothere ↦ omega (arith, ap bit nothere)
]

-- ---- sums over places

-- the limits that one place more passes
one_more : (limits : ℕ → ℕ → ℤ) (sizes : ℕ → ℤ) (n asked : ℕ) → all_above limits sizes (suc n) asked ≡ all_above limits sizes n asked + passed_here (λ k. limits k n) (sizes n) asked
one_more limits sizes n zero = refl
one_more limits sizes n (suc k) = omega (arith, one_more limits sizes n k)

none_yet : (limits : ℕ → ℕ → ℤ) (sizes : ℕ → ℤ) (asked : ℕ) → all_above limits sizes 0 asked ≡ 0
none_yet limits sizes zero = refl
none_yet limits sizes (suc k) = omega (arith, none_yet limits sizes k)

-- places whose magnitudes pass no limit add nothing
pub above_stays : (limits sizes : ℕ → ℤ) (n d : ℕ) → ((p : ℕ) → n ≤ p → p < n + d → int_lt (limits p) (sizes p) ≡ false) → above limits sizes (n + d) ≡ above limits sizes n
above_stays limits sizes n zero low = ap (above limits sizes) (omega arith)
above_stays limits sizes n (suc d) low =
    let next : n + suc d ≡ suc (n + d) = omega arith in
    let nothere : int_lt (limits (n + d)) (sizes (n + d)) ≡ false = low (n + d) (omega arith) (omega arith) in
    ap (above limits sizes) next ∙ ap (λ (b : Bool). above limits sizes (n + d) + (if b then 1 else 0)) nothere
    ∙ omega (arith, above_stays limits sizes n d (λ p le lt. low p le (omega (arith, lt))))

last_stays : (limits sizes : ℕ → ℤ) (n d : ℕ) → ((p : ℕ) → n ≤ p → p < n + d → int_lt (limits p) (sizes p) ≡ false) → last_above limits sizes (n + d) ≡ last_above limits sizes n
last_stays limits sizes n zero low = ap (last_above limits sizes) (omega arith)
last_stays limits sizes n (suc d) low =
    let next : n + suc d ≡ suc (n + d) = omega arith in
    let nothere : int_lt (limits (n + d)) (sizes (n + d)) ≡ false = low (n + d) (omega arith) (omega arith) in
    ap (last_above limits sizes) next ∙ ap (λ (b : Bool). if b then suc (n + d) else last_above limits sizes (n + d)) nothere ∙ last_stays limits sizes n d (λ p le lt. low p le (omega (arith, lt)))

all_stay : (limits : ℕ → ℕ → ℤ) (sizes : ℕ → ℤ) (n d asked : ℕ) → ((k p : ℕ) → k < asked → n ≤ p → p < n + d → int_lt (limits k p) (sizes p) ≡ false) → all_above limits sizes (n + d) asked ≡ all_above limits sizes n asked
all_stay limits sizes n d zero low = refl
all_stay limits sizes n d (suc k) low =
    omega (arith, all_stay limits sizes n d k (λ j p lt. low j p (omega (arith, lt))), above_stays (limits k) sizes n d (λ p le lt. low k p (omega arith) le lt))

-- ---- the last that passes

pub last_most : (limits sizes : ℕ → ℤ) (n : ℕ) → last_above limits sizes n ≤ n
last_most limits sizes zero = omega arith
last_most limits sizes (suc n) = grind (arith, last_most limits sizes n)

-- by limits that agree
pub same_above : (f g sizes : ℕ → ℤ) (n : ℕ) → ((p : ℕ) → p < n → f p ≡ g p) → above f sizes n ≡ above g sizes n
same_above f g sizes zero same = refl
same_above f g sizes (suc n) same = omega (arith, same_above f g sizes n (λ p lt. same p (omega (arith, lt))), ap (λ (z : ℤ). passes z (sizes n)) (same n (omega arith)))

pub same_last : (f g sizes : ℕ → ℤ) (n : ℕ) → ((p : ℕ) → p < n → f p ≡ g p) → last_above f sizes n ≡ last_above g sizes n
same_last f g sizes zero same = refl
same_last f g sizes (suc n) same =
    ap (λ (z : ℤ). if int_lt z (sizes n) then suc n else last_above f sizes n) (same n (omega arith))
    ∙ ap (λ (k : ℕ). if int_lt (g n) (sizes n) then suc n else k) (same_last f g sizes n (λ p lt. same p (omega (arith, lt))))

pub above_most : (f sizes : ℕ → ℤ) (n : ℕ) → above f sizes n ≤ n
above_most f sizes zero = omega arith
above_most f sizes (suc n) = omega (arith, above_most f sizes n, passes_most (f n) (sizes n))

-- ---- values

abbrev pub AreToldBy : (ℕ → ℕ → ℤ) → (ℕ → ℤ) → ℕ → ℕ → List ℤ → Type 0
AreToldBy limits sizes asked n vs = (p : ℕ) → p < n → IsToldBy (λ k. limits k p) (sizes p) asked (get_or vs p (pos 0))

-- the codes of the first n values
bits_of_first : (limits : ℕ → ℕ → ℤ) (sizes : ℕ → ℤ) (asked : ℕ) (vs : List ℤ) (n : ℕ) → n ≤ length vs → AreToldBy limits sizes asked n vs
    → length (codes_of (take n vs)) ≡ n + above (limits 0) sizes n + 2 * all_above limits sizes n asked
bits_of_first limits sizes asked vs zero le told = omega (arith, none_yet limits sizes asked)
bits_of_first limits sizes asked vs (suc n) le told =
    let v : ℤ = get_or vs n (pos 0) in
    let next : suc n ≡ n + 1 = omega arith in
    omega (
      arith,
      bits_of_first limits sizes asked vs n (omega (arith, le)) (λ p lt. told p (omega (arith, lt))),
      ap (λ (k : ℕ). length (codes_of (take k vs))) next,
      ap (λ (t : List Bool). length t) (codes_of-next vs n (omega (arith, le))),
      length-append (codes_of (take n vs)) (signed_code_of v),
      (told n (omega arith)).bits,
      one_more limits sizes n asked,
    )

-- behind the last one that passes none does, and it passes
last_none : (limits sizes : ℕ → ℤ) (n p : ℕ) → last_above limits sizes n ≤ p → p < n → int_lt (limits p) (sizes p) ≡ false
last_none limits sizes zero p le lt = absurd (omega arith)
last_none limits sizes (suc n) p le lt = elim (cases_bool (int_lt (limits n) (sizes n))) [
  | inl here ↦ absurd (omega (arith, le, lt, ap (λ (b : Bool). if b then suc n else last_above limits sizes n) here))
  | inr nothere ↦ elim (cases_eq p n) [
    | inl same ↦ subst (λ (k : ℕ). int_lt (limits k) (sizes k) ≡ false) (sym same) nothere
    | inr other ↦ last_none limits sizes n p (omega (arith, le, ap (λ (b : Bool). if b then suc n else last_above limits sizes n) nothere)) (omega (arith, lt, other))
  ]
]

last_some : (limits sizes : ℕ → ℤ) (n : ℕ) → 0 < last_above limits sizes n → int_lt (limits (last_above limits sizes n - 1)) (sizes (last_above limits sizes n - 1)) ≡ true
last_some limits sizes zero some = absurd (omega arith)
last_some limits sizes (suc n) some = elim (cases_bool (int_lt (limits n) (sizes n))) [
  | inl here ↦
      let is : last_above limits sizes (suc n) ≡ suc n = ap (λ (b : Bool). if b then suc n else last_above limits sizes n) here in
      let at : last_above limits sizes (suc n) - 1 ≡ n = omega (arith, is) in
      subst (λ (k : ℕ). int_lt (limits k) (sizes k) ≡ true) (sym at) here
  | inr nothere ↦
      let is : last_above limits sizes (suc n) ≡ last_above limits sizes n = ap (λ (b : Bool). if b then suc n else last_above limits sizes n) nothere in
      let at : last_above limits sizes (suc n) - 1 ≡ last_above limits sizes n - 1 = ap (λ (k : ℕ). k - 1) is in
      subst (λ (k : ℕ). int_lt (limits k) (sizes k) ≡ true) (sym at) (last_some limits sizes n (omega (arith, some, is)))
]

-- So a look at places, of which those past the list's end pass nothing, tells of the list.
pub look_is : (l : Look) (limits : ℕ → ℕ → ℤ) (sizes : ℕ → ℤ) (asked n d : ℕ) (vs : List ℤ) → 1 ≤ asked → length vs ≡ n → AreToldBy limits sizes asked n vs
    → ((k p : ℕ) → k < asked → n ≤ p → p < n + d → int_lt (limits k p) (sizes p) ≡ false) → Counts l limits sizes (n + d) asked → IsLook l vs
look_is l limits sizes asked n d vs some count told low counts =
    let first = λ (p : ℕ) (le : n ≤ p) (lt : p < n + d). low 0 p (omega (arith, some)) le lt in
    let last : l.last ≡ last_above (limits 0) sizes n = counts.last ∙ last_stays (limits 0) sizes n d first in
    let most = last_most (limits 0) sizes n in
    record {
      bits = omega (
        arith,
        counts.some,
        counts.all,
        above_stays (limits 0) sizes n d first,
        all_stay limits sizes n d asked low,
        bits_of_first limits sizes asked vs n (omega (arith, count)) told,
        ap (λ (t : List ℤ). length (codes_of t)) (take_all n vs (omega (arith, count))),
        count,
      );
      most = omega (arith, last, most, count);
      zeros = λ p le lt. (told p (omega (arith, lt, count))).none (last_none (limits 0) sizes n p (omega (arith, le, last)) (omega (arith, lt, count)));
      some = λ there.
          let at : l.last - 1 ≡ last_above (limits 0) sizes n - 1 = ap (λ (k : ℕ). k - 1) last in
          subst (λ (k : ℕ). get_or vs k (pos 0) ≢ pos 0) (sym at) ((told (last_above (limits 0) sizes n - 1) (omega (arith, there, last, most))).some (last_some (limits 0) sizes n (omega (arith, there, last))));
    }

-- ---- what a loop counts

-- a number of a list, as it is read
pub read_is : {X : Type 0} (value : X → ℤ) (none : X) (xs : List X) (k : ℕ) (r : X) → r ≡ get_or xs k r → k < length xs → value r ≡ valued value none xs k
read_is value none xs k r is lt = ap value (is ∙ get_or_default xs k r none lt)

module _ (limits sizes : ℕ → ℤ) (k : ℕ) (limit size : ℤ) (limit_is : limit ≡ limits k) (size_is : size ≡ sizes k) where
  pub next_above : above limits sizes (k + 1) ≡ above limits sizes k + passes limit size
  next_above =
      let next : k + 1 ≡ suc k = omega arith in
      ap (above limits sizes) next ∙ ap (λ (z : ℤ). above limits sizes k + passes z (sizes k)) (sym limit_is) ∙ ap (λ (z : ℤ). above limits sizes k + passes limit z) (sym size_is)

  -- the number of the last one that passes, by the next number
  pub next_last : (number last out : ℤ) → out ≡ (if int_lt limit size then number else last) → number ≡ pos (k + 1) → last ≡ pos (last_above limits sizes k) → out ≡ pos (last_above limits sizes (k + 1))
  next_last number last out is number_is last_is =
      let next : k + 1 ≡ suc k = omega arith in
      let tested : last_above limits sizes (suc k) ≡ (if int_lt limit size then suc k else last_above limits sizes k) =
      ap (λ (z : ℤ). if int_lt z (sizes k) then suc k else last_above limits sizes k) (sym limit_is) ∙ ap (λ (z : ℤ). if int_lt limit z then suc k else last_above limits sizes k) (sym size_is)
      in
      is ∙ either (int_lt limit size) (number_is ∙ ap pos next) last_is ∙ ap pos (sym (ap (last_above limits sizes) next ∙ tested))
    where
      either : (b : Bool) {x y : ℤ} {n m : ℕ} → x ≡ pos n → y ≡ pos m → (if b then x else y) ≡ pos (if b then n else m)
      either true one two = one
      either false one two = two

  pub next_most : above limits sizes k ≤ k → above limits sizes (k + 1) ≤ k + 1
  next_most le = omega (arith, le, next_above, passes_most limit size)
