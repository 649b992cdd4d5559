-- Rows of steps: the quantisers of a key, band by band, and the steps of their places.
use Rattle.std.proofs.Common.{◌≡◌, ℕ, zero, suc, ◌+◌, ◌-◌, ◌*◌, ◌^◌, ◌<◌, ◌≤◌, List, ◌++◌, Bool, true, false, length, get_or, set, take, drop, replicate, ℤ, pos, unsigned_abs, refl, sym, ap, subst, ◌∙◌, inl, inr, arith}
use Rattle.std.specs.Prelude.{◌↔◌, ◌&&◌}
use Rattle.std.proofs.lemmas.Bool.{cases_lt}
use Rattle.std.proofs.lemmas.Grind.{get_or-set_at}
use Rattle.std.proofs.lemmas.List.{get_or_append_left, get_or-append-add, get_or-replicate, get_or-set_other, length-append, length-replicate, append-nil, drop_all, take_all}
use Rattle.quant_factors.specs.Weights.{band_quantiser}
use Rattle.quant_factors.proofs.QuantLemmas.{abs-inverse}
use Rattle.slice_geometry.specs.SliceOrder.{level_rect, area, level_of, orient_of}
use Rattle.slice_decoder.specs.declared.short_restoring.Step.{Step}
use Rattle.slice_decoder.specs.declared.step_rows.StepKey.{StepKey}
use Rattle.slice_decoder.specs.Components.{Part, index_of, quantisers_before}
use Rattle.slice_decoder.specs.Restored.{restored_at, StayWithin}
use Rattle.slice_decoder.specs.RestoredBands.{all_quantisers}
use Rattle.slice_decoder.specs.Steps.{IsStep}
use Rattle.slice_decoder.specs.StepRows.{band_quantisers, key_quantisers, quantisers_by, step_at, AreSteps, IsStepRow}

-- how many values band k has, and their index
abbrev pub values_of : StepKey → ℕ → ℕ
values_of key k = key.each * get_or key.areas (level_of k) 0

abbrev pub index_by : StepKey → ℕ → ℕ
index_by key k = band_quantiser key.matrix key.qindex (level_of k) (orient_of k)

key-more : (key : StepKey) (k : ℕ) → key_quantisers key (k + 1) ≡ key_quantisers key k ++ band_quantisers key k
unfolding key_quantisers
key-more key k = let one : k + 1 ≡ suc k = omega arith in ap (key_quantisers key) one

pub length-more : (key : StepKey) (k : ℕ) → length (key_quantisers key (k + 1)) ≡ length (key_quantisers key k) + values_of key k
length-more key k =
    ap length (key-more key k) ∙ length-append (key_quantisers key k) (band_quantisers key k)
    ∙ ap (λ (n : ℕ). length (key_quantisers key k) + n) (length-replicate (values_of key k) (index_by key k))

length-grows : (key : StepKey) (k m : ℕ) → length (key_quantisers key k) ≤ length (key_quantisers key (k + m))
length-grows key k zero = let none : k + 0 ≡ k = omega arith in omega (arith, ap (λ (n : ℕ). length (key_quantisers key n)) none)
length-grows key k (suc m) =
    let next : k + suc m ≡ k + m + 1 = omega arith in
    omega (arith, length-grows key k m, length-more key (k + m), ap (λ (n : ℕ). length (key_quantisers key n)) next)

-- the values of a band are among all
pub band-inside : (key : StepKey) (k total : ℕ) → k < total → length (key_quantisers key k) + values_of key k ≤ length (key_quantisers key total)
band-inside key k total lt =
    let whole : k + 1 + (total - (k + 1)) ≡ total = omega arith in
    omega (arith, length-grows key (k + 1) (total - (k + 1)), length-more key k, ap (λ (n : ℕ). length (key_quantisers key n)) whole)

pub no-bands : (key : StepKey) → 0 ≡ length (key_quantisers key 0)
unfolding key_quantisers
no-bands key = refl

-- the values of a band, whose level has a number of its own, are among all
pub band-fits : (key : StepKey) (k from area : ℕ) → from ≡ length (key_quantisers key k) → area ≡ get_or key.areas (level_of k) 0 → k < 3 * key.matrix.depth + 1
    → from + key.each * area ≤ length (quantisers_by key)
band-fits key k from area from_is area_is lt = rw (from_is, area_is) (band-inside key k (3 * key.matrix.depth + 1) lt)

pub next-from : (key : StepKey) (k from area : ℕ) → from ≡ length (key_quantisers key k) → area ≡ get_or key.areas (level_of k) 0
    → from + key.each * area ≡ length (key_quantisers key (k + 1))
next-from key k from area from_is area_is = rw (from_is, area_is) (sym (length-more key k))

-- none where no place has a value
pub no-values : (key : StepKey) (k : ℕ) → key.each ≡ 0 → length (key_quantisers key k) ≡ 0
unfolding key_quantisers
no-values key zero none = refl
no-values key (suc k) none =
    let next : suc k ≡ k + 1 = omega arith in
    let zeros : key.each * get_or key.areas (level_of k) 0 ≡ 0 * get_or key.areas (level_of k) 0 = ap (λ (n : ℕ). n * get_or key.areas (level_of k) 0) none in
    omega (arith, ap (λ (n : ℕ). length (key_quantisers key n)) next, length-more key k, no-values key k none, zeros)

-- a part whose bands have so many places has the quantisers of the key
abbrev pub key_in : ℕ → Part → List ℕ → StepKey
key_in each p areas = record { each = each; qindex = p.qindex; areas = areas; matrix = p.matrix }

module _ (each : ℕ) (p : Part) (areas : List ℕ) (are : (level : ℕ) → level ≤ p.slicing.depth → get_or areas level 0 ≡ area (level_rect p.slicing p.size p.sx p.sy level)) where
  same-before : (n : ℕ) → n ≤ 3 * p.slicing.depth + 1 → key_quantisers (key_in each p areas) n ≡ quantisers_before each p n
  unfolding key_quantisers quantisers_before
  same-before zero le = refl
  same-before (suc k) le =
      let low : level_of k ≤ p.slicing.depth = omega (arith, le) in
      let index : ℕ = index_of p k in
      ap (λ (qs : List ℕ). qs ++ band_quantisers (key_in each p areas) k) (same-before k (omega (arith, le)))
      ∙ ap (λ (n : ℕ). quantisers_before each p k ++ replicate (each * n) index) (are (level_of k) low)

  pub same-quantisers : p.matrix.depth ≡ p.slicing.depth → quantisers_by (key_in each p areas) ≡ all_quantisers each p
  same-quantisers depth_is =
      ap (λ (d : ℕ). key_quantisers (key_in each p areas) (3 * d + 1)) depth_is ∙ same-before (3 * p.slicing.depth + 1) (omega arith)

-- ---- a band is written

-- a list has one number from one place to another, and is as it was before them
pub record HasRun (from to number : ℕ) (old new : List ℕ) : Type 0 where
  pub inside : (k : ℕ) → from ≤ k → k < to → get_or new k 0 ≡ number
  pub before : (k : ℕ) → k < from → get_or new k 0 ≡ get_or old k 0

pub has-run : (from to number : ℕ) (old now new written : List ℕ) → now ≡ old → written ≡ new
    → ((k : ℕ) → from ≤ k → k < to → get_or new k 0 ≡ number) → ((k : ℕ) → k < from → get_or new k 0 ≡ get_or now k 0)
    → HasRun from to number old written
has-run from to number old now new written now_is written_is inside before = record {
  inside = λ k low lt. ap (λ (xs : List ℕ). get_or xs k 0) written_is ∙ inside k low lt;
  before = λ k lt. ap (λ (xs : List ℕ). get_or xs k 0) written_is ∙ before k lt ∙ ap (λ (xs : List ℕ). get_or xs k 0) now_is;
}

-- a list that was lent whole holds what was written
pub whole-written : (len : ℕ) (new items : List ℕ) → len ≡ length new → length items ≡ length new → take len (new ++ drop (length new) items) ≡ new
whole-written len new items len_is long =
    ap (λ (xs : List ℕ). take len (new ++ xs)) (drop_all (length new) items (omega (arith, long))) ∙ ap (take len) (append-nil new) ∙ take_all len new (omega (arith, len_is))

module _ (from to : ℕ) (s : Step) (f a l f1 a1 l1 : List ℕ) (factors : HasRun from to s.factor f f1) (adds : HasRun from to s.add a a1) (limits : HasRun from to s.limit l l1) where
  step-inside : (j : ℕ) → from ≤ j → j < to → step_at f1 a1 l1 j ≡ s
  step-inside j low lt = rw (factors.inside j low lt, adds.inside j low lt, limits.inside j low lt) refl

  step-before : (j : ℕ) → j < from → step_at f1 a1 l1 j ≡ step_at f a l j
  step-before j lt = rw (factors.before j lt, adds.before j lt, limits.before j lt) refl

  pub steps-more : (key : StepKey) (k area index : ℕ) → from ≡ length (key_quantisers key k) → area ≡ get_or key.areas (level_of k) 0 → to ≡ from + key.each * area
      → index ≡ index_by key k → IsStep index s → AreSteps (key_quantisers key k) from f a l → AreSteps (key_quantisers key (k + 1)) to f1 a1 l1
  steps-more key k area index from_is area_is end index_is step old j lt =
      let to_is : to ≡ from + values_of key k = end ∙ ap (λ (n : ℕ). from + key.each * n) area_is in
      elim (cases_lt j from) [
        | inl before ↦
            let here : get_or (key_quantisers key (k + 1)) j 0 ≡ get_or (key_quantisers key k) j 0 =
            ap (λ (qs : List ℕ). get_or qs j 0) (key-more key k)
            ∙ get_or_append_left (key_quantisers key k) (band_quantisers key k) 0 j (omega (arith, before, from_is)) in
            rw (here, step-before j before) (old j before)
        | inr after ↦
            let few : j - from < values_of key k = omega (arith, lt, to_is, after) in
            let place : length (key_quantisers key k) + (j - from) ≡ j = omega (arith, from_is, after) in
            let here : get_or (key_quantisers key (k + 1)) j 0 ≡ index =
            ap (λ (qs : List ℕ). get_or qs j 0) (key-more key k)
            ∙ ap (λ (n : ℕ). get_or (key_quantisers key k ++ band_quantisers key k) n 0) (sym place)
            ∙ get_or-append-add (key_quantisers key k) (band_quantisers key k) (j - from) 0
            ∙ get_or-replicate (values_of key k) (j - from) (index_by key k) 0 few ∙ sym index_is in
            rw (here, step-inside j after lt) step
      ]

-- ---- a row restores

-- none passes the limit of its place exactly where all are restored within 2 ^ 14 - 1
pub row-stays : (quantisers : List ℕ) (n : ℕ) (factors adds limits : List ℕ) (vs : List ℤ) (answer : Bool) → AreSteps quantisers n factors adds limits
    → ((answer ≡ true) ↔ ((j : ℕ) → j < n → unsigned_abs (get_or vs j (pos 0)) ≤ get_or limits j 0))
    → StayWithin (2 ^ 14 - 1) answer (restored_at vs quantisers) 0 n
row-stays quantisers n factors adds limits vs answer steps test = record {
  yes = λ e k low lt.
      omega (arith, abs-inverse (get_or vs k (pos 0)) (get_or quantisers k 0), (steps k lt).low (unsigned_abs (get_or vs k (pos 0))) (test.0 e k lt));
  no = λ e all. absurd (let both : false ≡ true = sym e ∙ test.1 (λ j lt. within j lt (all j (omega arith) lt)) in cc);
}
  where
    within : (j : ℕ) → j < n → unsigned_abs (restored_at vs quantisers j) ≤ 2 ^ 14 - 1 → unsigned_abs (get_or vs j (pos 0)) ≤ get_or limits j 0
    within j lt few = elim (cases_lt (get_or limits j 0) (unsigned_abs (get_or vs j (pos 0)))) [
      | inl above ↦ absurd (omega (arith, abs-inverse (get_or vs j (pos 0)) (get_or quantisers j 0), (steps j lt).past (unsigned_abs (get_or vs j (pos 0))) above, few))
      | inr le ↦ omega (arith, le)
    ]

-- a row's steps, as it is lent
pub lent-steps : (key key1 : StepKey) (f a l f1 a1 l1 : List ℕ) → key ≡ key1 → f1 ≡ f → a1 ≡ a → l1 ≡ l → IsStepRow key f a l
    → AreSteps (quantisers_by key1) (length (quantisers_by key1)) f1 a1 l1
lent-steps key key1 f a l f1 a1 l1 key_is f_is a_is l_is row = rw (sym key_is, f_is, a_is, l_is) row.steps

-- one more place is looked at
pub test-next : (all low : Bool) (k : ℕ) (P : ℕ → Type 0) → ((all ≡ true) ↔ ((j : ℕ) → j < k → P j)) → ((low ≡ true) ↔ P k)
    → (((all && low) ≡ true) ↔ ((j : ℕ) → j < k + 1 → P j))
test-next all low k P test one = (yes all low test one, no all low test one)
  where
    yes : (all low : Bool) → ((all ≡ true) ↔ ((j : ℕ) → j < k → P j)) → ((low ≡ true) ↔ P k) → (all && low) ≡ true → (j : ℕ) → j < k + 1 → P j
    yes true true test one e j lt = elim (cases_lt j k) [
      | inl before ↦ test.0 refl j before
      | inr after ↦ let here : k ≡ j = omega (arith, lt, after) in subst P here (one.0 refl)
    ]
    yes true false test one e j lt = absurd cc
    yes false low test one e j lt = absurd cc

    no : (all low : Bool) → ((all ≡ true) ↔ ((j : ℕ) → j < k → P j)) → ((low ≡ true) ↔ P k) → ((j : ℕ) → j < k + 1 → P j) → (all && low) ≡ true
    no all low test one each =
        let first : all ≡ true = test.1 (λ j lt. each j (omega (arith, lt))) in
        let second : low ≡ true = one.1 (each k (omega arith)) in
        rw (first, second) refl

-- one more value is restored, where no magnitude passes the limit of its place
pub restored-next : (quantisers limits : List ℕ) (vs now : List ℤ) (k : ℕ) (v : ℤ) → k < length now
    → (unsigned_abs (get_or vs k (pos 0)) ≤ get_or limits k 0 → v ≡ restored_at vs quantisers k)
    → ((j : ℕ) → j < k → unsigned_abs (get_or vs j (pos 0)) ≤ get_or limits j 0 → get_or now j (pos 0) ≡ restored_at vs quantisers j)
    → (j : ℕ) → j < k + 1 → unsigned_abs (get_or vs j (pos 0)) ≤ get_or limits j 0 → get_or (set now k v) j (pos 0) ≡ restored_at vs quantisers j
restored-next quantisers limits vs now k v inside is old j lt low = elim (cases_lt j k) [
  | inl before ↦ get_or-set_other now k j v (pos 0) (λ e. absurd (omega (arith, before, e))) ∙ old j before low
  | inr after ↦
      let here : j ≡ k = omega (arith, lt, after) in
      get_or-set_at now k j v (pos 0) here inside
      ∙ is (subst (λ (n : ℕ). unsigned_abs (get_or vs n (pos 0)) ≤ get_or limits n 0) here low)
      ∙ ap (restored_at vs quantisers) (sym here)
]

pub rest-next : (vs now : List ℤ) (k : ℕ) (v : ℤ) → ((j : ℕ) → k ≤ j → get_or now j (pos 0) ≡ get_or vs j (pos 0))
    → (j : ℕ) → k + 1 ≤ j → get_or (set now k v) j (pos 0) ≡ get_or vs j (pos 0)
rest-next vs now k v old j le = get_or-set_other now k j v (pos 0) (λ e. absurd (omega (arith, le, e))) ∙ old j (omega arith)
