-- Slices in one piece, and rows of slices in turn.
use Rattle.std.proofs.Common.{◌≡◌, ap, sym, subst, ◌∙◌, ℕ, ◌+◌, ◌*◌, ◌/◌, ◌%◌, ◌<◌, ◌≤◌, ℤ, pos, length, arith, inl, inr, mod-lt}
use Rattle.std.proofs.lemmas.Nat.{mul-le, div-add-mod'}
use Rattle.std.proofs.lemmas.Bool.{cases_lt}
use Rattle.planes.specs.Raster.{at}
use Rattle.planes.specs.Subbands.{BandStack, band_of}
use Rattle.slice_geometry.specs.SliceOrder.{place_count, place_number}
use Rattle.slice_store.specs.Store.{Store}
use Rattle.slice_store.specs.Places.{band, row_with, column_with, run_start, place_of, number_at, IsPlace, IsStoreSound, AreTogether}
use Rattle.slice_store.specs.Writing.{with_numbers, OthersStay}
use Rattle.slice_store.specs.Laws.{RowsInTurn}
use Rattle.slice_store.proofs.Apart.{one_more, more_before, run_inside, strip_inside, in_run, in_slice, starts_rise}

-- of so many in a row no two have one rest
pub window : (n from t u : ℕ) → 1 ≤ n → from ≤ t → t < from + n → from ≤ u → u < from + n → t % n ≡ u % n → t ≡ u
window n from t u some ft lt fu lu e =
    let a : t / n * n + t % n ≡ t = div-add-mod' t n in
    let b : u / n * n + u % n ≡ u = div-add-mod' u n in
    elim (cases_lt (t / n) (u / n)) [
      | inl less ↦
          let more : (t / n + 1) * n ≤ u / n * n = mul-le (t / n + 1) n (u / n) n (omega (arith, less)) (omega arith) in
          absurd (omega (arith, a, b, more, e, ft, lu))
      | inr not ↦ elim (cases_lt (u / n) (t / n)) [
        | inl less ↦
            let more : (u / n + 1) * n ≤ t / n * n = mul-le (u / n + 1) n (t / n) n (omega (arith, less)) (omega arith) in
            absurd (omega (arith, a, b, more, e, fu, lt))
        | inr neither ↦
            let q : t / n ≡ u / n = omega (arith, not, neither) in
            let p : t / n * n ≡ u / n * n = ap (λ (k : ℕ). k * n) q in
            omega (arith, a, b, p, e)
      ]
    ]

pub rows_in_turn : (s t : Store ℤ) (b : BandStack) (level orient y from : ℕ) → IsStoreSound s → t ≡ with_numbers s t.numbers → OthersStay (λ z. z) (pos 0) s t level orient y
    → from ≤ row_with s level y → row_with s level y < from + s.strips → RowsInTurn s t b level orient y from
rows_in_turn s t b level orient y from sound same stay low high = record {
  kept = λ l o j exists inside lo hi other shown x lt.
      let Q : Store ℤ → Type 0 = λ u. x < (band u l).w in
      let column : x < (band s l).w = subst Q same lt in
      stay l o j x (record { exists = exists; row = inside; column = column }) (λ e. window s.strips from (row_with s l j) (row_with s level y) sound.some lo hi low high e) other ∙ shown x column;
  whole = λ to each.
      let P : Store ℤ → Type 0 = λ u. (l o j x : ℕ) → IsPlace u l o j x → from ≤ row_with u l j → row_with u l j < to → number_at (λ z. z) (pos 0) t l o j x ≡ at (band_of b l o) j x in
      subst P (sym same) (λ l o j x place lo hi. each l o j place.exists place.row lo hi x
      (let Q : Store ℤ → Type 0 = λ u. x < (band u l).w in subst Q (sym same) place.column));
}

module _ {X : Type 0} (s : Store X) (sound : IsStoreSound s) (sx sy : ℕ) (across : sx < s.slicing.slices_x) (down : sy < s.slicing.slices_y) where
  pub run_there : run_start s sx sy + place_count s.slicing s.size sx sy ≤ length s.numbers
  run_there = omega (arith, one_more s sx sy, run_inside s sound sx sy across down, strip_inside s sound sy)

  pub run_place : (level orient y x : ℕ) → column_with s level x ≡ sx → row_with s level y ≡ sy → place_of s level orient y x ≡ run_start s sx sy + place_number s.slicing s.size sx sy level orient y x
  run_place level orient y x column row =
      ap (λ (c : ℕ). run_start s c (row_with s level y) + place_number s.slicing s.size c (row_with s level y) level orient y x) column
      ∙ ap (λ (r : ℕ). run_start s sx r + place_number s.slicing s.size sx r level orient y x) row

  pub number_inside : (level orient y x : ℕ) → IsPlace s level orient y x → column_with s level x ≡ sx → row_with s level y ≡ sy → place_number s.slicing s.size sx sy level orient y x < place_count s.slicing s.size sx sy
  number_inside level orient y x place column row =
      let to = (in_run s sound level orient y x place).to in
      let end : run_start s (column_with s level x + 1) (row_with s level y) ≡ run_start s (sx + 1) sy =
      ap (λ (c : ℕ). run_start s (c + 1) (row_with s level y)) column ∙ ap (λ (r : ℕ). run_start s (sx + 1) r) row in
      omega (arith, to, end, run_place level orient y x column row, one_more s sx sy)

  -- a place of another slice is outside
  pub other_outside : (level orient y x : ℕ) → IsPlace s level orient y x → AreTogether s (row_with s level y) sy → (column_with s level x ≡ sx → row_with s level y ≡ sy → ⊥)
      → (k : ℕ) → k < place_count s.slicing s.size sx sy → place_of s level orient y x ≡ run_start s sx sy + k → ⊥
  other_outside level orient y x place together other k lt e =
      let run = in_run s sound level orient y x place in
      let held = in_slice s sound level orient y x place in
      let c : ℕ = column_with s level x in
      let r : ℕ = row_with s level y in
      let end = run_inside s sound c r held.across held.down in
      let last = run_inside s sound sx sy across down in
      let one = one_more s sx sy in
      elim (cases_lt (r % s.strips) (sy % s.strips)) [
        | inl less ↦
            let rise = starts_rise s sound (r % s.strips + 1) (sy % s.strips) (omega (arith, less)) (omega (arith, mod-lt sy sound.some)) in
            omega (arith, e, run.to, end, rise)
        | inr not ↦ elim (cases_lt (sy % s.strips) (r % s.strips)) [
          | inl less ↦
              let rise = starts_rise s sound (sy % s.strips + 1) (r % s.strips) (omega (arith, less)) (omega (arith, mod-lt r sound.some)) in
              omega (arith, e, run.from, last, one, rise, lt)
          | inr neither ↦
              let row : r ≡ sy = together (omega (arith, not, neither)) in
              let from : run_start s c sy ≤ place_of s level orient y x = subst (λ (n : ℕ). run_start s c n ≤ place_of s level orient y x) row run.from in
              let to : place_of s level orient y x < run_start s (c + 1) sy = subst (λ (n : ℕ). place_of s level orient y x < run_start s (c + 1) n) row run.to in
              elim (cases_lt c sx) [
                | inl less ↦ let more = more_before s (c + 1) sx sy (omega (arith, less)) in omega (arith, e, to, more)
                | inr here ↦ elim (cases_lt sx c) [
                  | inl less ↦ let more = more_before s (sx + 1) c sy (omega (arith, less)) in omega (arith, e, from, more, one, lt)
                  | inr same ↦ other (omega (arith, here, same)) row
                ]
              ]
        ]
      ]
