-- A level of synthesis row by row, from the rows of its bands.
use Rattle.std.proofs.Common.{◌≡◌, ◌∙◌, refl, sym, ap, subst, ℕ, ◌+◌, ◌-◌, ◌*◌, ◌/◌, ◌%◌, ◌<◌, ◌≤◌, arith, ℤ, List, length, inl, inr}
use Rattle.std.proofs.lemmas.Bool.{cases_eq}
use Rattle.std.proofs.lemmas.Bool.Decides.{nat_tests}
use Rattle.planes.specs.Numbers.{Within}
use Rattle.planes.specs.Raster.{row_of}
use Rattle.planes.specs.Valued.{valued, grid_of}
use Rattle.lifting.specs.declared.Wavelet.{Wavelet}
use Rattle.lifting.specs.declared.Wavelet.TheVariants.{LeGall, HaarFlat, HaarShift}
use Rattle.lifting.specs.declared.PairStep.TheVariants.{EvenDown, OddUp}
use Rattle.lifting.specs.declared.level_up.Pair.{Pair}
use Rattle.lifting.specs.declared.roll.Level.{Level}
use Rattle.lifting.specs.Steps.{step, haar_step, one_step, halved}
use Rattle.lifting.specs.Lines.{Line, after, lift, synthesis_line}
use Rattle.lifting.specs.Places.{beside, woven, side_place}
use Rattle.lifting.specs.Transform.{Grid, every_other, synthesis_level}
use Rattle.lifting.specs.Ranges.{LineWithin, SameInside}
use Rattle.lifting.specs.Fits.{LineFits, LevelFits}
use Rattle.lifting.specs.Turns.{HasGrid, level_grid}
use Rattle.lifting.specs.LevelPairs.{rows_final, column_of, evened_row, raised_row, HoldsPair, HoldsPairs}
use Rattle.lifting.proofs.Undone.{before_even, after_even, before_odd, lift_at, lift_other}
use Rattle.lifting.proofs.Inside.{line_same, line_fits_same}
use Rattle.lifting.proofs.Growth.{interleaved_at}
use Rattle.lifting.proofs.TwoSides.{same_step, beside_by, beside_three, side_front, side_back, side_inside}
use Rattle.lifting.proofs.WovenLines.{woven_by}

-- two rows side by side that hold the even and the odd places of a line
beside_is : (w : ℕ) (a b c : Line) → ((i : ℕ) → i < w → a i ≡ c (2 * i + 0)) → ((i : ℕ) → i < w → b i ≡ c (2 * i + 1)) → (x : ℕ) → x < 2 * w → beside w a b x ≡ c (side_place w x)
beside_is w a b c ea eb =
    beside_by (λ x v. v ≡ c (side_place w x)) w a b (λ i lt. let is : side_place w i ≡ 2 * i + 0 = side_front w i lt ∙ (omega arith) in ea i lt ∙ ap c (sym is))
    (λ i lt. let is : side_place w (w + i) ≡ 2 * i + 1 = grind (arith, nat_tests) in eb i lt ∙ ap c (sym is))

-- ---- the rows of a level's bands, as a pair

pub pair_of : {X : Type 0} (value : X → ℤ) (none : X) (g : Grid) (l : Level X) (y w n : ℕ) → y < l.h → w ≡ l.w → n ≡ y → HasGrid value none g l
    → (p : Pair X) (ll : List X) → p.ll.now ≡ ll → l.w ≤ length ll → ((x : ℕ) → x < l.w → valued value none ll x ≡ every_other 0 0 g y x)
    → (l.w ≤ length p.hl.now) × (l.w ≤ length p.lh.now) × (l.w ≤ length p.hh.now)
    → p.hl.now ≡ row_of l.hl.now y → p.lh.now ≡ row_of l.lh.now y → p.hh.now ≡ row_of l.hh.now y → HoldsPair value none w n g p
pair_of {X} value none g l y w n lt ew en grid p ll is_ll ll_long low long is_hl is_lh is_hh =
    let at = valued value none in
    let held : HoldsPair value none l.w y g p = record {
      ll_long = rw is_ll ll_long;
      hl_long = long.0;
      lh_long = long.1;
      hh_long = long.2;
      ll = λ x lx. ap (λ (r : List X). at r x) is_ll ∙ low x lx;
      hl = λ x lx. ap (λ (r : List X). at r x) is_hl ∙ grid.hl y x lt lx;
      lh = λ x lx. ap (λ (r : List X). at r x) is_lh ∙ grid.lh y x lt lx;
      hh = λ x lx. ap (λ (r : List X). at r x) is_hh ∙ grid.hh y x lt lx;
    } in
    subst (λ (v : ℕ). HoldsPair value none v n g p) (sym ew) (subst (λ (m : ℕ). HoldsPair value none l.w m g p) (sym en) held)

-- ---- a row, woven

unsided : (w : ℕ) (line c : Line) → ((x : ℕ) → x < 2 * w → line x ≡ c (side_place w x)) → (i : ℕ) → i < 2 * w → woven line (λ j. line (w + j)) i ≡ c i
unsided w line c is =
    woven_by (λ i v. v ≡ c i) w line (λ j. line (w + j)) (λ j lj. is j (omega arith) ∙ ap c (side_front w j lj))
    (λ j lj. let behind : w + j - w ≡ j = omega arith in is (w + j) (omega arith) ∙ ap c (side_back w (w + j) (omega arith)) ∙ ap (λ (m : ℕ). c (2 * m + 1)) behind)

-- Haar's step up looks at no place behind
seen : (k : Wavelet) (e : Line) (i j : ℕ) → (k ≡ LeGall → i ≡ j) → (v c : ℤ) → step k OddUp v c (e j) ≡ step k OddUp v c (e i)
unfolding step haar_step one_step
seen LeGall e i j same v c = ap (λ (m : ℕ). step LeGall OddUp v c (e m)) (sym (same refl))
seen HaarFlat e i j same v c = refl
seen HaarShift e i j same v c = refl

module _ (k : Wavelet) (h w : ℕ) (g : Grid) where
  pub row_made : (y : ℕ) (row : Line) → ((x : ℕ) → x < 2 * w → row x ≡ raised_row k h w g y x)
      → (x : ℕ) → x < 2 * w → halved k (synthesis_line k (2 * w) (woven row (λ j. row (w + j))) x) ≡ synthesis_level k (2 * h) (2 * w) g y x
  unfolding synthesis_level
  row_made y row is x lx =
      let line : Line = λ i. synthesis_line k (2 * h) (λ j. g j i) y in
      ap (halved k) (line_same k (2 * w) (omega arith) (woven row (λ j. row (w + j))) line (unsided w row line is) x lx)

  -- an even row is left by the columns' second step
  pub even_raised : (y x : ℕ) → evened_row k h w g (2 * y) x ≡ raised_row k h w g (2 * y) x
  unfolding synthesis_line
  even_raised y x = sym (lift_other 1 (2 * h) (step k OddUp) (lift 0 (2 * h) (step k EvenDown) (column_of g w x)) (2 * y) (omega arith))

  -- ---- what is small, where a width has room for the level

  module _ (m : ℕ) (fits : LevelFits k (2 * h) (2 * w) m g) where
    own : (j i : ℕ) → j < 2 * h → i < 2 * w → Within m (g j i)
    own j i lj li = (fits.columns i li).own j lj

    pub pair_small : {X : Type 0} (value : X → ℤ) (none : X) (y : ℕ) → y < h → (p : Pair X) → HoldsPair value none w y g p
        → LineWithin w m (valued value none p.ll.now) × LineWithin w m (valued value none p.hl.now) × LineWithin w m (valued value none p.lh.now) × LineWithin w m (valued value none p.hh.now)
    pair_small value none y lt p is = (
      λ x lx. subst (Within m) (sym (is.ll x lx)) (own (2 * y + 0) (2 * x + 0) (omega arith) (omega arith)),
      λ x lx. subst (Within m) (sym (is.hl x lx)) (own (2 * y + 0) (2 * x + 1) (omega arith) (omega arith)),
      λ x lx. subst (Within m) (sym (is.lh x lx)) (own (2 * y + 1) (2 * x + 0) (omega arith) (omega arith)),
      λ x lx. subst (Within m) (sym (is.hh x lx)) (own (2 * y + 1) (2 * x + 1) (omega arith) (omega arith)),
    )

    pub evened_small : (j : ℕ) → j < 2 * h → (row : Line) → ((x : ℕ) → x < 2 * w → row x ≡ evened_row k h w g j x) → LineWithin (2 * w) m row
    evened_small j lj row even x lx = subst (Within m) (sym (even x lx)) ((fits.columns (side_place w x) (side_inside w x lx)).even j lj)

    pub raised_fits : (j : ℕ) → j < 2 * h → (row : Line) → ((x : ℕ) → x < 2 * w → row x ≡ raised_row k h w g j x) → LineFits k (2 * w) m (woven row (λ i. row (w + i)))
    raised_fits j lj row raised =
        let line : Line = λ i. synthesis_line k (2 * h) (λ j. g j i) j in
        line_fits_same k (2 * w) m (omega arith) (woven row (λ i. row (w + i))) line (unsided w row line raised) (fits.rows j lj)

  -- ---- the rows of a pair side by side, and what the steps make of them

  module _ {X : Type 0} (value : X → ℤ) (none : X) (y : ℕ) (lt : y < h) (p : Pair X) (is : HoldsPair value none w y g p) where
    low_beside : (x : ℕ) → x < 2 * w → beside w (valued value none p.ll.now) (valued value none p.hl.now) x ≡ column_of g w x (2 * y)
    low_beside x lx =
        let whole : 2 * y + 0 ≡ 2 * y = omega arith in
        beside_is w (valued value none p.ll.now) (valued value none p.hl.now) (g (2 * y + 0)) is.ll is.hl x lx ∙ ap (λ (j : ℕ). g j (side_place w x)) whole

    high_beside : (x : ℕ) → x < 2 * w → beside w (valued value none p.lh.now) (valued value none p.hh.now) x ≡ column_of g w x (2 * y + 1)
    high_beside x lx = beside_is w (valued value none p.lh.now) (valued value none p.hh.now) (g (2 * y + 1)) is.lh is.hh x lx

    pub even_made : (q : Pair X) → HoldsPair value none w (y - 1) g q → (x : ℕ) → x < 2 * w
        → beside w (λ i. step k EvenDown (valued value none p.ll.now i) (valued value none q.lh.now i) (valued value none p.lh.now i))
        (λ i. step k EvenDown (valued value none p.hl.now i) (valued value none q.hh.now i) (valued value none p.hh.now i)) x
        ≡ evened_row k h w g (2 * y) x
    even_made q above x lx =
        let at = valued value none in
        let f = step k EvenDown in
        let col = column_of g w x in
        beside_three f w x (at p.ll.now) (at p.hl.now) (at q.lh.now) (at q.hh.now) (at p.lh.now) (at p.hh.now)
        ∙ same_step f _ _ _ _ _ _ (low_beside x lx) (beside_is w (at q.lh.now) (at q.hh.now) (g (2 * (y - 1) + 1)) above.lh above.hh x lx) (high_beside x lx)
        ∙ sym (lift_at 0 (2 * h) f col (2 * y) (omega arith) ∙ same_step f _ _ _ _ _ _ refl (ap col (before_even y)) (ap col (after_even (2 * h) y (omega arith))))

    pub odd_made : (a b : Line) (j : ℕ) → (k ≡ LeGall → after (2 * h) (2 * y + 1) ≡ j) → ((x : ℕ) → x < 2 * w → a x ≡ evened_row k h w g (2 * y) x) → ((x : ℕ) → x < 2 * w → b x ≡ evened_row k h w g j x)
        → (x : ℕ) → x < 2 * w → step k OddUp (beside w (valued value none p.lh.now) (valued value none p.hh.now) x) (a x) (b x) ≡ raised_row k h w g (2 * y + 1) x
    unfolding synthesis_line
    odd_made a b j behind ea eb x lx =
        let f = step k OddUp in
        let col = column_of g w x in
        let e = lift 0 (2 * h) (step k EvenDown) col in
        same_step f _ _ _ _ _ _ (high_beside x lx) (ea x lx) (eb x lx)
        ∙ seen k e (after (2 * h) (2 * y + 1)) j behind _ _
        ∙ sym
        (lift_at 1 (2 * h) f e (2 * y + 1) (omega arith)
        ∙ same_step f _ _ _ _ _ _ (lift_other 0 (2 * h) (step k EvenDown) col (2 * y + 1) (omega arith)) (ap e (before_odd y)) refl)

-- ---- the row that is given next

pub few_final : (k : Wavelet) (h n : ℕ) → n ≤ h → (rows_final k h n ≤ 2 * n) × (2 * n ≤ rows_final k h n + 1)
few_final LeGall h n le = (grind arith, grind arith)
few_final HaarFlat h n le = (omega arith, omega arith)
few_final HaarShift h n le = (omega arith, omega arith)

module _ (k : Wavelet) (h w n m : ℕ) (g ring : Grid) (le : n ≤ h) (near : 2 * n ≤ m + 3) (lt : m < rows_final k h n) (held : HoldsPairs k h w n m g ring) where
  pub ring_row : 2 * n ≤ m + 2 → (x : ℕ) → x < 2 * w → ring ((m + 1) / 2 % 2) x ≡ raised_row k h w g m x
  ring_row late x lx =
      let few : rows_final k h n ≤ 2 * n = (few_final k h n le).0 in
      elim (cases_eq (m + 2) (2 * n)) [
        | inl e ↦
            let place : n - 1 ≡ (m + 1) / 2 = omega arith in
            let row : 2 * (n - 1) ≡ m = omega arith in
            subst (λ (i : ℕ). ring (i % 2) x ≡ raised_row k h w g m x) place
            (held.even (omega arith) (λ _. omega arith) x lx ∙ even_raised k h w g (n - 1) x ∙ ap (λ (j : ℕ). raised_row k h w g j x) row)
        | inr ne ↦
            let place : n ≡ (m + 1) / 2 = omega (arith, few, lt) in
            let row : 2 * (n - 1) + 1 ≡ m = omega (arith, few, lt) in
            let all : rows_final k h n ≡ 2 * n = omega (arith, few, lt) in
            subst (λ (i : ℕ). ring (i % 2) x ≡ raised_row k h w g m x) place
            (held.last (omega (arith, few, lt)) all (omega (arith, few, lt)) x lx ∙ ap (λ (j : ℕ). raised_row k h w g j x) row)
      ]

-- ---- the bands of a level are those of the grid that they make with LL

pub grid_of_level : {X : Type 0} (value : X → ℤ) (none : X) (ll : Grid) (l : Level X) → HasGrid value none (level_grid value none ll l) l
grid_of_level value none ll l =
    let at = grid_of value none in
    let places = interleaved_at ll (at l.hl.now) (at l.lh.now) (at l.hh.now) in
    let whole : (n : ℕ) → 2 * n + 0 ≡ 2 * n = λ n. omega arith in
    record {
      hl = λ y x _ _. sym (ap (λ (j : ℕ). level_grid value none ll l j (2 * x + 1)) (whole y) ∙ (places y x).1);
      lh = λ y x _ _. sym (ap (λ (i : ℕ). level_grid value none ll l (2 * y + 1) i) (whole x) ∙ (places y x).2);
      hh = λ y x _ _. sym (places y x).3;
    }

pub low_of_grid : {X : Type 0} (value : X → ℤ) (none : X) (ll : Grid) (l : Level X) → SameInside l.h l.w ll (every_other 0 0 (level_grid value none ll l))
low_of_grid value none ll l y x _ _ =
    let at = grid_of value none in
    let whole : (n : ℕ) → 2 * n + 0 ≡ 2 * n = λ n. omega arith in
    sym (ap (λ (j : ℕ). level_grid value none ll l j (2 * x + 0)) (whole y) ∙ ap (λ (i : ℕ). level_grid value none ll l (2 * y) i) (whole x) ∙ (interleaved_at ll (at l.hl.now) (at l.lh.now) (at l.hh.now) y x).0)
