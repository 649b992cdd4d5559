-- The least index that fits.
use Rattle.std.proofs.Common.{◌≡◌, ◌∙◌, sym, ℕ, zero, suc, ◌<◌, ◌≤◌, Bool, true, false, arith, inl, inr}
use Rattle.std.specs.Prelude.{◌⊎◌}
use Rattle.std.proofs.lemmas.Bool.{cases_lt, cases_eq}
use Rattle.slice_encoder.specs.Trials.{Lists}
use Rattle.slice_encoder.specs.Choice.{fits, IsLeastIndex}
use Rattle.slice_encoder.specs.TrialLaws.{HasOneLeast}

true_or_false : (b : Bool) → (b ≡ true) ⊎ (b ≡ false)
true_or_false true = inl (let e : true ≡ true = cc in e)
true_or_false false = inr (let e : false ≡ false = cc in e)

module _ (bytes : ℕ) (at_index : ℕ → Lists) where
  -- none of the first n fits, or one of them is the least
  abbrev Found : ℕ → Type 0
  Found n = ((i : ℕ) → i < n → fits bytes (at_index i) ≡ false) ⊎ ((index : ℕ) × IsLeastIndex bytes at_index index)

  found : (n : ℕ) → n ≤ 128 → Found n
  found zero le = inl (λ i lt. absurd (omega arith))
  found (suc n) le = elim (found n (omega arith)) as (λ _. Found (suc n)) [
    | inr some ↦ inr some
    | inl none ↦ elim (true_or_false (fits bytes (at_index n))) as (λ _. Found (suc n)) [
      | inl fit ↦ inr (n, record { most = omega arith; fit = fit; least = none })
      | inr not ↦ inl (λ i lt. elim (cases_eq i n) as (λ _. fits bytes (at_index i) ≡ false) [
        | inl e ↦ rw e not
        | inr ne ↦ none i (omega arith)
      ])
    ]
  ]

  some : fits bytes (at_index 127) ≡ true → (index : ℕ) × IsLeastIndex bytes at_index index
  some fit = elim (found 128 (omega arith)) [
    | inl none ↦ absurd (let q : false ≡ true = sym (none 127 (omega arith)) ∙ fit in cc)
    | inr least ↦ least
  ]

  not_below : (i j : ℕ) → IsLeastIndex bytes at_index i → IsLeastIndex bytes at_index j → i ≤ j
  not_below i j a b = elim (cases_lt j i) [
    | inl lt ↦ absurd (let q : false ≡ true = sym (a.least j lt) ∙ b.fit in cc)
    | inr le ↦ le
  ]

  pub one_least : HasOneLeast bytes at_index
  one_least = record { some = some; no_other = λ i j a b. omega (arith, not_below i j a b, not_below j i b a) }
