-- Strips, one behind the other.
use Rattle.std.proofs.Common.{◌≡◌, ap, sym, subst, ◌∙◌, ℕ, suc, ◌+◌, ◌%◌, ◌<◌, ◌≤◌, Bool, true, false, List, get_or, arith, inl, inr, mod-lt}
use Rattle.std.specs.Prelude.{◌==◌, if◌then◌else◌}
use Rattle.std.proofs.Math.Nat.{mod-eq_of_lt}
use Rattle.std.proofs.lemmas.Bool.Decides.{nat_tests}
use Rattle.std.proofs.lemmas.Bool.{cases_eq}
use Rattle.std.proofs.lemmas.List.{ext_get_or}
use Rattle.slice_geometry.specs.declared.Size.{Size}
use Rattle.slice_geometry.specs.Slicing.{Slicing}
use Rattle.slice_store.specs.Room.{row_numbers, strip_room, strip_numbers, strip_start, AreStarts}
use Rattle.slice_store.proofs.Rooms.{row_fits}

-- two lists of the same starts are one
pub same_starts : (xs ys : List ℕ) (s : Slicing) (size : Size) (strips : ℕ) → AreStarts xs s size strips → AreStarts ys s size strips → xs ≡ ys
same_starts xs ys s size strips a b =
    ext_get_or 0 xs ys (a.count ∙ sym b.count) (λ i lt. let le : i ≤ strips = omega (arith, lt, a.count) in a.each i le ∙ sym (b.each i le))

module _ (s : Slicing) (size : Size) (strips : ℕ) where
  pub numbers_all : (k : ℕ) → strips ≡ s.slices_y → strip_numbers s size strips k ≡ row_numbers s size k
  numbers_all k all =
      let e : (strips == s.slices_y) ≡ true = grind (arith, nat_tests) in
      ap (λ (t : Bool). if t then row_numbers s size k else strip_room s size s.depth) e

  pub numbers_few : (k : ℕ) → (strips ≡ s.slices_y → ⊥) → strip_numbers s size strips k ≡ strip_room s size s.depth
  numbers_few k few =
      let e : (strips == s.slices_y) ≡ false = grind (arith, nat_tests) in
      ap (λ (t : Bool). if t then row_numbers s size k else strip_room s size s.depth) e

  -- a strip has room for each row of slices that comes to it
  strip_fits : (sy : ℕ) → 1 ≤ s.slices_x → sy < s.slices_y → row_numbers s size sy ≤ strip_numbers s size strips (sy % strips)
  strip_fits sy across down = elim (cases_eq strips s.slices_y) as (λ _. row_numbers s size sy ≤ strip_numbers s size strips (sy % strips)) [
    | inl all ↦
        let same : sy % strips ≡ sy = mod-eq_of_lt (omega (arith, all, down)) in
        subst (λ (k : ℕ). row_numbers s size sy ≤ strip_numbers s size strips k) (sym same) (omega (arith, numbers_all sy all))
    | inr few ↦ omega (arith, numbers_few (sy % strips) few, row_fits s size across (omega (arith, down)) sy)
  ]

  module _ (starts : List ℕ) (have : AreStarts starts s size strips) where
    next : (k : ℕ) → k < strips → get_or starts (k + 1) 0 ≡ get_or starts k 0 + strip_numbers s size strips k
    next k lt =
        let e : k + 1 ≡ suc k = omega arith in
        let end : strip_start s size strips (k + 1) ≡ strip_start s size strips k + strip_numbers s size strips k = ap (λ (n : ℕ). strip_start s size strips n) e in
        omega (arith, have.each k (omega (arith, lt)), have.each (k + 1) (omega (arith, lt)), end)

    pub starts_rise : (k : ℕ) → k < strips → get_or starts k 0 ≤ get_or starts (k + 1) 0
    starts_rise k lt = omega (arith, next k lt)

    pub row_inside : 1 ≤ strips → 1 ≤ s.slices_x → (sy : ℕ) → sy < s.slices_y → get_or starts (sy % strips) 0 + row_numbers s size sy ≤ get_or starts (sy % strips + 1) 0
    row_inside some across sy down = omega (arith, strip_fits sy across down, next (sy % strips) (mod-lt sy (omega (arith, some))))
