-- A level of analysis row by row: an odd row when the even one below it has come, and then the even row above it.
use Rattle.std.proofs.Common.{◌≡◌, ◌≢◌, ◌∙◌, refl, sym, ap, subst, ℤ, ℕ, ◌+◌, ◌-◌, ◌*◌, ◌%◌, ◌^◌, ◌<◌, ◌≤◌, arith, inl, inr, lit≤}
use Rattle.std.proofs.lemmas.Bool.{cases_eq}
use Rattle.planes.specs.Numbers.{Within}
use Rattle.planes.proofs.Floors.{wider}
use Rattle.lifting.specs.declared.Wavelet.{Wavelet}
use Rattle.lifting.specs.declared.PairStep.TheVariants.{OddDown, EvenUp}
use Rattle.lifting.specs.Steps.{step, doubled}
use Rattle.lifting.specs.Lines.{before, after, lift, analysis_line}
use Rattle.lifting.specs.LevelRows.{lifted_row}
use Rattle.lifting.specs.Places.{side_place}
use Rattle.lifting.specs.Transform.{Grid, analysis_level}
use Rattle.lifting.specs.Ranges.{LineWithin, GridWithin}
use Rattle.lifting.proofs.Undone.{before_even, after_even, before_odd, lift_at, lift_other}
use Rattle.lifting.proofs.Growth.{doubled_small, whole_line_back, level_back_grows, odd_doubles}
use Rattle.lifting.proofs.TwoSides.{same_step, side_inside}

pub before_later : (y : ℕ) → 1 ≤ y → before (2 * y) ≡ 2 * y - 1
before_later y some = grind arith

pub after_inner : (h y : ℕ) → y + 1 < h → after (2 * h) (2 * y + 1) ≡ 2 * y + 2
after_inner h y lt = grind arith

pub after_last : (h y : ℕ) → y + 1 ≡ h → after (2 * h) (2 * y + 1) ≡ 2 * y
after_last h y e = grind arith

module _ (k : Wavelet) (h w : ℕ) (g : Grid) where
  level_at : (j i : ℕ) → analysis_level k (2 * h) (2 * w) g j i ≡ analysis_line k (2 * h) (λ m. lifted_row k w g m i) j
  unfolding analysis_level
  level_at j i = refl

  odd_lifted : (j i : ℕ) → j % 2 ≡ 1 → analysis_level k (2 * h) (2 * w) g j i ≡ lift 1 (2 * h) (step k OddDown) (λ m. lifted_row k w g m i) j
  unfolding analysis_line
  odd_lifted j i odd = level_at j i ∙ lift_other 0 (2 * h) (step k EvenUp) (lift 1 (2 * h) (step k OddDown) (λ m. lifted_row k w g m i)) j (omega arith)

  -- an odd place between the even ones beside it
  pub level_odd : (y i : ℕ) → analysis_level k (2 * h) (2 * w) g (2 * y + 1) i
      ≡ step k OddDown (lifted_row k w g (2 * y + 1) i) (lifted_row k w g (2 * y) i) (lifted_row k w g (after (2 * h) (2 * y + 1)) i)
  level_odd y i =
      let col = λ (m : ℕ). lifted_row k w g m i in
      odd_lifted (2 * y + 1) i (omega arith) ∙ lift_at 1 (2 * h) (step k OddDown) col (2 * y + 1) (omega arith)
      ∙ ap (λ (m : ℕ). step k OddDown (col (2 * y + 1)) (col m) (col (after (2 * h) (2 * y + 1)))) (before_odd y)

  -- an even place between the lifted odd ones beside it
  level_even : (y i : ℕ) → analysis_level k (2 * h) (2 * w) g (2 * y) i
      ≡ step k EvenUp (lifted_row k w g (2 * y) i) (analysis_level k (2 * h) (2 * w) g (before (2 * y)) i) (analysis_level k (2 * h) (2 * w) g (2 * y + 1) i)
  unfolding analysis_line
  level_even y i =
      let col = λ (m : ℕ). lifted_row k w g m i in
      let odds = lift 1 (2 * h) (step k OddDown) col in
      level_at (2 * y) i ∙ lift_at 0 (2 * h) (step k EvenUp) odds (2 * y) (omega arith)
      ∙ same_step (step k EvenUp) _ _ _ _ _ _ (lift_other 1 (2 * h) (step k OddDown) col (2 * y) (omega arith)) (sym (odd_lifted (before (2 * y)) i (rw (before_even y) (omega arith))))
      (ap odds (after_even (2 * h) y (omega arith)) ∙ sym (odd_lifted (2 * y + 1) i (omega arith)))

  -- ---- how large the rows are

  module _ (small : GridWithin (2 * h) (2 * w) (2 ^ 25) g) where
    pub row_small : (j x : ℕ) → j < 2 * h → x < 2 * w → Within (2 ^ 28) (lifted_row k w g j (side_place w x))
    row_small j x lj lx =
        wider (2 * (2 * 2 ^ 25)) (2 ^ 28) _ (lit≤ tt)
        (whole_line_back k (2 * w) (2 * 2 ^ 25) (λ i. doubled k (g j i)) (omega arith) (λ i li. doubled_small k (2 ^ 25) (g j i) (small j i lj li)) (side_place w x) (side_inside w x lx))

    pub level_small : (j x : ℕ) → j < 2 * h → x < 2 * w → Within (2 ^ 28) (analysis_level k (2 * h) (2 * w) g j (side_place w x))
    level_small j x lj lx =
        wider (8 * 2 ^ 25) (2 ^ 28) _ (lit≤ tt) (level_back_grows k (2 * h) (2 * w) (2 ^ 25) g (omega arith) (omega arith) small j (side_place w x) lj (side_inside w x lx))

  -- ---- one turn, in the rows of the ring: the odd row, and the even one above it

  module _ (y b : ℕ) (s : Grid)
      (even : (x : ℕ) → x < 2 * w → s (2 * y % 4) x ≡ lifted_row k w g (2 * y) (side_place w x))
      (above : 1 ≤ y → (x : ℕ) → x < 2 * w → s (before (2 * y) % 4) x ≡ analysis_level k (2 * h) (2 * w) g (before (2 * y)) (side_place w x))
      (odd : (x : ℕ) → x < 2 * w → s ((2 * y + 1) % 4) x ≡ lifted_row k w g (2 * y + 1) (side_place w x))
      (below : (x : ℕ) → x < 2 * w → (v a : ℤ) → step k OddDown v a (s b x) ≡ step k OddDown v a (lifted_row k w g (after (2 * h) (2 * y + 1)) (side_place w x)))
      (t : Grid)
      (odd_step : (x : ℕ) → x < 2 * w → t ((2 * y + 1) % 4) x ≡ step k OddDown (s ((2 * y + 1) % 4) x) (s (2 * y % 4) x) (s b x))
      (even_step : (x : ℕ) → x < 2 * w → t (2 * y % 4) x ≡ step k EvenUp (s (2 * y % 4) x) (t (before (2 * y) % 4) x) (t ((2 * y + 1) % 4) x))
      (others : (j x : ℕ) → j ≢ (2 * y + 1) % 4 → j ≢ 2 * y % 4 → x < 2 * w → t j x ≡ s j x) where
    pub odd_done : (x : ℕ) → x < 2 * w → t ((2 * y + 1) % 4) x ≡ analysis_level k (2 * h) (2 * w) g (2 * y + 1) (side_place w x)
    odd_done x lx = odd_step x lx ∙ below x lx _ _ ∙ rw (odd x lx, even x lx) (sym (level_odd y (side_place w x)))

    above_done : (x : ℕ) → x < 2 * w → t (before (2 * y) % 4) x ≡ analysis_level k (2 * h) (2 * w) g (before (2 * y)) (side_place w x)
    above_done x lx = elim (cases_eq y 0) [
      | inl e ↦
          let is : 2 * y + 1 ≡ before (2 * y) = rw e refl in
          subst (λ (m : ℕ). t (m % 4) x ≡ analysis_level k (2 * h) (2 * w) g m (side_place w x)) is (odd_done x lx)
      | inr ne ↦
          let is : before (2 * y) ≡ 2 * y - 1 = before_later y (omega arith) in
          others (before (2 * y) % 4) x (rw is (omega arith)) (rw is (omega arith)) lx ∙ above (omega arith) x lx
    ]

    pub even_done : (x : ℕ) → x < 2 * w → t (2 * y % 4) x ≡ analysis_level k (2 * h) (2 * w) g (2 * y) (side_place w x)
    even_done x lx = even_step x lx ∙ rw (even x lx, above_done x lx, odd_done x lx) (sym (level_even y (side_place w x)))

-- ---- how large the rows are that the even one of a turn is lifted between

module _ (k : Wavelet) (y b w : ℕ) (s t : Grid) (even_small : LineWithin w (2 ^ 28) (s (2 * y % 4))) (odd_small : LineWithin w (2 ^ 28) (s ((2 * y + 1) % 4)))
    (above_small : 1 ≤ y → LineWithin w (2 ^ 28) (s (before (2 * y) % 4))) (below_small : LineWithin w (2 ^ 28) (s b))
    (lifted : (x : ℕ) → x < w → t ((2 * y + 1) % 4) x ≡ step k OddDown (s ((2 * y + 1) % 4) x) (s (2 * y % 4) x) (s b x))
    (others : (j x : ℕ) → j ≢ (2 * y + 1) % 4 → x < w → t j x ≡ s j x) where
  pub lifted_small : (x : ℕ) → x < w → Within (2 ^ 29) (t ((2 * y + 1) % 4) x)
  lifted_small x lx =
      subst (λ (v : ℤ). Within (2 ^ 29) v) (sym (lifted x lx))
      (wider (2 * 2 ^ 28) (2 ^ 29) _ (lit≤ tt) (odd_doubles k (2 ^ 28) _ _ _ (odd_small x lx) (even_small x lx) (below_small x lx)))

  pub between_small : (a : ℕ) → a ≡ before (2 * y) → (x : ℕ) → x < w → Within (2 ^ 29) (t (a % 4) x)
  between_small a above x lx = elim (cases_eq y 0) [
    | inl e ↦
        let is : 2 * y + 1 ≡ a = (let first : 2 * y + 1 ≡ before (2 * y) = rw e refl in first) ∙ sym above in
        subst (λ (m : ℕ). Within (2 ^ 29) (t (m % 4) x)) is (lifted_small x lx)
    | inr ne ↦
        let is : before (2 * y) ≡ 2 * y - 1 = before_later y (omega arith) in
        rw (above, others (before (2 * y) % 4) x (rw is (omega arith)) lx) (wider (2 ^ 28) (2 ^ 29) _ (lit≤ tt) (above_small (omega arith) x lx))
  ]
