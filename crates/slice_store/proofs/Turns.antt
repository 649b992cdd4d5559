-- Numbers that are put in one piece: the slice has them, and all others stay.
use Rattle.std.proofs.Common.{◌≡◌, ap, sym, subst, ◌∙◌, ℕ, ◌+◌, ◌-◌, ◌<◌, ◌≤◌, List, ℤ, length, get_or, take, drop, ◌++◌, arith, inl, inr}
use Rattle.std.proofs.lemmas.Bool.{cases_lt}
use Rattle.std.proofs.lemmas.List.{get_or_append_left, get_or-append_right, get_or-take, get_or-drop, length-take-le}
use Rattle.std.specs.Prelude.{Vec}
use Rattle.std.specs.Vec.{with_items}
use Rattle.std.proofs.lemmas.List.{with_items_is}
use borrow.Rule.Slice.PartMut.{mid_of, put_mid, mid_len, same_len_mid, Post-is}
use Rattle.slice_geometry.specs.SliceOrder.{place_count, place_number}
use Rattle.slice_store.specs.Store.{Store}
use Rattle.slice_store.specs.Places.{run_start, place_of, number_at, IsStoreSound}
use Rattle.slice_store.specs.Writing.{with_numbers, ShowsRun, OtherRunsStay}
use Rattle.slice_store.proofs.Runs.{run_place, number_inside, other_outside}

-- so many numbers from one place on are these, and the rest is as it was
pub record IsPutAt {X : Type 0} (none : X) (at count : ℕ) (run : ℕ → X) (old new : List X) : Type 0 where
  pub done : (k : ℕ) → k < count → get_or new (at + k) none ≡ run k
  pub before : (j : ℕ) → j < at → get_or new j none ≡ get_or old j none
  pub behind : (j : ℕ) → at + count ≤ j → get_or new j none ≡ get_or old j none

module _ {X : Type 0} (none : X) (xs ys : List X) (at count : ℕ) (there : at + count ≤ length xs) (long : length ys ≡ count) where
  put_is : put_mid at (at + count - at) xs ys ≡ take at xs ++ (ys ++ drop (at + count) xs)
  put_is = ap (λ (l : List X). take at xs ++ (ys ++ l)) (Post-is at (at + count) xs (omega arith))

  front : length (take at xs) ≡ at
  front = length-take-le at xs (omega (arith, there))

  pub mid_put : IsPutAt none at count (λ k. get_or ys k none) xs (put_mid at (at + count - at) xs ys)
  mid_put = record {
    done = λ k lt.
        let e : at + k - at ≡ k = omega arith in
        ap (λ (l : List X). get_or l (at + k) none) put_is
        ∙ get_or-append_right (take at xs) (ys ++ drop (at + count) xs) at (at + k) none front (omega arith)
        ∙ ap (λ (i : ℕ). get_or (ys ++ drop (at + count) xs) i none) e
        ∙ get_or_append_left ys (drop (at + count) xs) none k (omega (arith, lt, long));
    before = λ j lt.
        ap (λ (l : List X). get_or l j none) put_is
        ∙ get_or_append_left (take at xs) (ys ++ drop (at + count) xs) none j (omega (arith, lt, front))
        ∙ get_or-take at xs j none lt;
    behind = λ j past.
        let e : at + count + (j - at - count) ≡ j = omega (arith, past) in
        ap (λ (l : List X). get_or l j none) put_is
        ∙ get_or-append_right (take at xs) (ys ++ drop (at + count) xs) at j none front (omega (arith, past))
        ∙ get_or-append_right ys (drop (at + count) xs) count (j - at) none long (omega (arith, past))
        ∙ get_or-drop (at + count) xs (j - at - count) none
        ∙ ap (λ (i : ℕ). get_or xs i none) e;
  }

pub same_run : {X : Type 0} (none : X) (at count : ℕ) (run other : ℕ → X) (old new : List X) → ((k : ℕ) → k < count → run k ≡ other k) → IsPutAt none at count run old new → IsPutAt none at count other old new
same_run none at count run other old new same put = record { done = λ k lt. put.done k lt ∙ same k lt; before = put.before; behind = put.behind }

module _ {X : Type 0} (value : X → ℤ) (none : X) (s : Store X) (sound : IsStoreSound s) (sx sy : ℕ) (across : sx < s.slicing.slices_x) (down : sy < s.slicing.slices_y) (run : ℕ → X) (t : Store X) (same : t ≡ with_numbers s t.numbers)
    (put : IsPutAt none (run_start s sx sy) (place_count s.slicing s.size sx sy) run s.numbers t.numbers) where
  pub run_shown : ShowsRun value none t sx sy run
  run_shown =
      let P : Store X → Type 0 = λ u. ShowsRun value none u sx sy run in
      subst P (sym same) (λ level orient y x place column row.
      let n : ℕ = place_number s.slicing s.size sx sy level orient y x in
      ap value (ap (λ (k : ℕ). get_or t.numbers k none) (run_place s sound sx sy across down level orient y x column row)
      ∙ put.done n (number_inside s sound sx sy across down level orient y x (record { exists = place.exists; row = place.row; column = place.column }) column row)))

  pub runs_stay : OtherRunsStay value none s t sx sy
  runs_stay level orient y x place together other =
      let start : ℕ = run_start s sx sy in
      let p : ℕ = place_of s level orient y x in
      let outside = other_outside s sound sx sy across down level orient y x place together other in
      ap (λ (u : Store X). number_at value none u level orient y x) same
      ∙ ap value (elim (cases_lt p start) as (λ _. get_or t.numbers p none ≡ get_or s.numbers p none) [
        | inl less ↦ put.before p less
        | inr not ↦ elim (cases_lt p (start + place_count s.slicing s.size sx sy)) as (λ _. get_or t.numbers p none ≡ get_or s.numbers p none) [
          | inl here ↦ absurd (outside (p - start) (omega (arith, here, not)) (omega (arith, not)))
          | inr past ↦ put.behind p past
        ]
      ])

pub part_is : {X : Type 0} (items : List X) (start count : ℕ) → start + count ≤ length items → length (mid_of start (start + count - start) items) ≡ count
part_is items start count there = mid_len start (start + count) items there ∙ omega arith

-- A part of the numbers of a store was lent, and came back with others.
module _ {X Z : Type 0} (none : X) (s : Store X) (sx sy : ℕ) (run : ℕ → X) (v : Vec X Z) (items ys : List X) (start count : ℕ) (same : items ≡ v.items) (numbers : v.items ≡ s.numbers) (begins : start ≡ run_start s sx sy) (counts : count ≡ place_count s.slicing s.size sx sy)
    (inside : start + place_count s.slicing s.size sx sy ≤ length s.numbers) (len : v.len ≡ length v.items) (long : length ys ≡ length (mid_of start (start + count - start) items)) (each : (k : ℕ) → k < length (mid_of start (start + count - start) items) → get_or ys k none ≡ run k) where
  there : start + count ≤ length items
  there = omega (arith, inside, counts, ap length same, ap length numbers)

  part : length (mid_of start (start + count - start) items) ≡ count
  part = part_is items start count there

  left_is : (with_items v (put_mid start (start + count - start) items ys)).items ≡ put_mid start (start + count - start) items ys
  left_is = with_items_is v (put_mid start (start + count - start) items ys) (same_len_mid start (start + count - start) items ys long ∙ ap length same ∙ sym len)

  pub came_back : IsPutAt none (run_start s sx sy) (place_count s.slicing s.size sx sy) run s.numbers (with_items v (put_mid start (start + count - start) items ys)).items
  came_back =
      let put = same_run none start count (λ k. get_or ys k none) run items (put_mid start (start + count - start) items ys) (λ k lt. each k (omega (arith, lt, part))) (mid_put none items ys start count there (long ∙ part)) in
      let P : ℕ → ℕ → List X → List X → Type 0 = λ a n old new. IsPutAt none a n run old new in
      subst (λ (a : ℕ). P a (place_count s.slicing s.size sx sy) s.numbers (with_items v (put_mid start (start + count - start) items ys)).items) begins
      (subst (λ (n : ℕ). P start n s.numbers (with_items v (put_mid start (start + count - start) items ys)).items) counts
      (subst (λ (old : List X). P start count old (with_items v (put_mid start (start + count - start) items ys)).items) (same ∙ numbers)
      (subst (λ (new : List X). P start count items new) (sym left_is) put)))
