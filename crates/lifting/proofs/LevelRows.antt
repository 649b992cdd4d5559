-- A level of analysis whose rows come one after another: what a row more leaves in the ring, and what a pair more does.
use Rattle.std.proofs.Common.{◌≡◌, ◌≢◌, ◌∙◌, refl, sym, ap, subst, ℕ, ℤ, ◌+◌, ◌-◌, ◌*◌, ◌%◌, ◌^◌, ◌<◌, ◌≤◌, arith, inl, inr}
use Rattle.std.proofs.lemmas.Bool.{cases_eq}
use Rattle.std.proofs.lemmas.Bool.Decides.{nat_tests}
use Rattle.planes.specs.Numbers.{Within}
use Rattle.planes.specs.Raster.{Raster}
use Rattle.planes.specs.Valued.{grid_of}
use Rattle.lifting.specs.declared.level_down.LevelDown.{LevelDown}
use Rattle.lifting.specs.declared.Wavelet.{Wavelet}
use Rattle.lifting.specs.declared.Wavelet.TheVariants.{LeGall, HaarFlat, HaarShift}
use Rattle.lifting.specs.Lines.{Line, before, after, analysis_line}
use Rattle.lifting.specs.declared.PairStep.TheVariants.{OddDown, EvenUp}
use Rattle.lifting.specs.Steps.{step, haar_step, one_step, doubled}
use Rattle.lifting.specs.Places.{side_place, woven}
use Rattle.lifting.specs.Transform.{Grid, analysis_level, every_other}
use Rattle.lifting.specs.Ranges.{LineWithin, GridWithin, SameInside}
use Rattle.lifting.specs.Turns.{IsRowPut}
use Rattle.lifting.specs.LevelRows.{rows_for, pairs_whole, lifted_row, made_row, HoldsRows}
use Rattle.lifting.proofs.Inside.{line_back_same}
use Rattle.lifting.proofs.LevelSteps.{before_later, after_inner, after_last, row_small, level_small, odd_done, even_done}
use Rattle.lifting.proofs.WovenLines.{woven_by}
use Rattle.lifting.proofs.TwoSides.{side_inside, side_even, side_odd}

-- ---- counts

-- both of its rows have come, and with the one below it has a row below
pub both_came : (k : Wavelet) (h n y : ℕ) → y < h → n ≡ rows_for k h (y + 1) → (2 * y + 2 ≤ n) × (n ≤ 2 * y + 3) × (2 * y + 2 < n → y + 1 < h)
both_came LeGall h n y lt due = (grind arith, grind arith, λ more. grind arith)
both_came HaarFlat h n y lt due = (omega arith, omega arith, λ more. absurd (omega arith))
both_came HaarShift h n y lt due = (omega arith, omega arith, λ more. absurd (omega arith))

-- as many pairs are whole as the rows make, or one row has come for the next, or two
pub few_more : (k : Wavelet) (h n y : ℕ) → y ≡ pairs_whole k h n → (2 * y ≤ n) × (n ≤ 2 * y + 2)
few_more LeGall h n y made = (grind (arith, nat_tests), grind (arith, nat_tests))
few_more HaarFlat h n y made = (omega arith, omega arith)
few_more HaarShift h n y made = (omega arith, omega arith)

-- where a row more doesn't wait, it is the last one that the next pair needs
pub due_now : (k : Wavelet) (h n y : ℕ) → y ≡ pairs_whole k h n → n < 2 * h → rows_for k h (y + 1) ≤ n + 1 → (y < h) × (n + 1 ≡ rows_for k h (y + 1))
due_now LeGall h n y made more due = (grind (arith, nat_tests), grind (arith, nat_tests))
due_now HaarFlat h n y made more due = (omega arith, omega arith)
due_now HaarShift h n y made more due = (omega arith, omega arith)

-- ---- a row more

-- a row that holds the numbers of the grid's, lifted
pub same_lifted : (k : Wavelet) (w j : ℕ) (g : Grid) (row : Line) → ((x : ℕ) → x < 2 * w → row x ≡ g j x)
    → (x : ℕ) → x < 2 * w → analysis_line k (2 * w) (λ i. doubled k (row i)) (side_place w x) ≡ lifted_row k w g j (side_place w x)
same_lifted k w j g row same x lx =
    line_back_same k (2 * w) (omega arith) (λ i. doubled k (row i)) (λ i. doubled k (g j i)) (λ i li. ap (doubled k) (same i li)) (side_place w x) (side_inside w x lx)

-- a row more in the ring, in its place
pub row_more : (k : Wavelet) (h w n y : ℕ) (g s t : Grid) → 2 * y ≤ n → n ≤ 2 * y + 2 → ((x : ℕ) → x < 2 * w → t (n % 4) x ≡ lifted_row k w g n (side_place w x)) → ((j x : ℕ) → j ≢ n % 4 → x < 2 * w → t j x ≡ s j x)
    → HoldsRows k h w n y g s → HoldsRows k h w (n + 1) y g t
row_more k h w n y g s t early late row others held =
    let came : (m : ℕ) → m ≡ n → (x : ℕ) → x < 2 * w → t (m % 4) x ≡ lifted_row k w g m (side_place w x) = λ m e x lx. subst (λ (i : ℕ). t (i % 4) x ≡ lifted_row k w g i (side_place w x)) (sym e) (row x lx) in
    record {
      even = λ lt lh x lx. elim (cases_eq (2 * y) n) [ inl e ↦ came (2 * y) e x lx | inr ne ↦ others (2 * y % 4) x (omega arith) lx ∙ held.even (omega arith) lh x lx ];
      odd = λ lt lh x lx. elim (cases_eq (2 * y + 1) n) [ inl e ↦ came (2 * y + 1) e x lx | inr ne ↦ others ((2 * y + 1) % 4) x (omega arith) lx ∙ held.odd (omega arith) lh x lx ];
      next = λ lt lh x lx. came (2 * y + 2) (omega arith) x lx;
      made_odd = λ some x lx. let is : before (2 * y) ≡ 2 * y - 1 = before_later y some in others (before (2 * y) % 4) x (rw is (omega arith)) lx ∙ held.made_odd some x lx;
      made_even = λ some few x lx. others ((2 * y - 2) % 4) x (omega arith) lx ∙ held.made_even some (omega arith) x lx;
    }

-- ---- a pair more

-- what a step down between 2y and the row below looks at: behind the last pair the row above, and of Haar nothing
below_seen : (k : Wavelet) (h w n y b : ℕ) (g s : Grid) → y < h → n ≡ rows_for k h (y + 1) → (2 * y + 2 < n → b ≡ (2 * y + 2) % 4) → (n ≤ 2 * y + 2 → b ≡ 2 * y % 4)
    → HoldsRows k h w n y g s
    → (x : ℕ) → x < 2 * w → (v a : ℤ) → step k OddDown v a (s b x) ≡ step k OddDown v a (lifted_row k w g (after (2 * h) (2 * y + 1)) (side_place w x))
unfolding step haar_step one_step
below_seen LeGall h w n y b g s lt due inner last held x lx v a = elim (cases_eq (y + 1) h) [
  | inl e ↦
      let here : b ≡ 2 * y % 4 = last (grind arith) in
      let is : after (2 * h) (2 * y + 1) ≡ 2 * y = after_last h y e in
      rw (here, is, held.even (grind arith) lt x lx) refl
  | inr ne ↦
      let here : b ≡ (2 * y + 2) % 4 = inner (grind arith) in
      let is : after (2 * h) (2 * y + 1) ≡ 2 * y + 2 = after_inner h y (omega arith) in
      rw (here, is, held.next (grind arith) (omega arith) x lx) refl
]
below_seen HaarFlat h w n y b g s lt due inner last held x lx v a = refl
below_seen HaarShift h w n y b g s lt due inner last held x lx v a = refl

module _ (k : Wavelet) (h w : ℕ) (g : Grid) (n y b : ℕ) (s : Grid) (lt : y < h) (due : n ≡ rows_for k h (y + 1))
    (inner : 2 * y + 2 < n → b ≡ (2 * y + 2) % 4) (last : n ≤ 2 * y + 2 → b ≡ 2 * y % 4) (held : HoldsRows k h w n y g s) where
  even_is : (x : ℕ) → x < 2 * w → s (2 * y % 4) x ≡ lifted_row k w g (2 * y) (side_place w x)
  even_is = held.even (omega (arith, (both_came k h n y lt due).0)) lt

  odd_is : (x : ℕ) → x < 2 * w → s ((2 * y + 1) % 4) x ≡ lifted_row k w g (2 * y + 1) (side_place w x)
  odd_is = held.odd (omega (arith, (both_came k h n y lt due).0)) lt

  module _ (small : GridWithin (2 * h) (2 * w) (2 ^ 25) g) where
    pub even_small : LineWithin (2 * w) (2 ^ 28) (s (2 * y % 4))
    even_small x lx = subst (Within (2 ^ 28)) (sym (even_is x lx)) (row_small k h w g small (2 * y) x (omega arith) lx)

    pub odd_small : LineWithin (2 * w) (2 ^ 28) (s ((2 * y + 1) % 4))
    odd_small x lx = subst (Within (2 ^ 28)) (sym (odd_is x lx)) (row_small k h w g small (2 * y + 1) x (omega arith) lx)

    pub above_small : 1 ≤ y → LineWithin (2 * w) (2 ^ 28) (s (before (2 * y) % 4))
    above_small some x lx =
        let is : before (2 * y) ≡ 2 * y - 1 = before_later y some in
        subst (Within (2 ^ 28)) (sym (held.made_odd some x lx)) (level_small k h w g small (before (2 * y)) x (rw is (omega arith)) lx)

    pub below_small : LineWithin (2 * w) (2 ^ 28) (s b)
    below_small x lx = elim (cases_eq n (2 * y + 3)) [
      | inl e ↦
          let more : y + 1 < h = (both_came k h n y lt due).2 (omega arith) in
          rw (inner (omega arith), held.next (omega arith) more x lx) (row_small k h w g small (2 * y + 2) x (omega arith) lx)
      | inr ne ↦
          let few : n ≤ 2 * y + 2 = omega (arith, (both_came k h n y lt due).1) in
          rw (last few) (even_small x lx)
    ]

  module _ (t : Grid)
      (odd_step : (x : ℕ) → x < 2 * w → t ((2 * y + 1) % 4) x ≡ step k OddDown (s ((2 * y + 1) % 4) x) (s (2 * y % 4) x) (s b x))
      (even_step : (x : ℕ) → x < 2 * w → t (2 * y % 4) x ≡ step k EvenUp (s (2 * y % 4) x) (t (before (2 * y) % 4) x) (t ((2 * y + 1) % 4) x))
      (others : (j x : ℕ) → j ≢ (2 * y + 1) % 4 → j ≢ 2 * y % 4 → x < 2 * w → t j x ≡ s j x) where
    below : (x : ℕ) → x < 2 * w → (v a : ℤ) → step k OddDown v a (s b x) ≡ step k OddDown v a (lifted_row k w g (after (2 * h) (2 * y + 1)) (side_place w x))
    below = below_seen k h w n y b g s lt due inner last held

    pub pair_more : HoldsRows k h w n (y + 1) g t
    pair_more =
        let most : n ≤ 2 * y + 3 = (both_came k h n y lt due).1 in
        record {
          even = λ lw lh x lx.
              let two : 2 * y + 2 ≡ 2 * (y + 1) = omega arith in
              subst (λ (m : ℕ). t (m % 4) x ≡ lifted_row k w g m (side_place w x)) two (others ((2 * y + 2) % 4) x (omega arith) (omega arith) lx ∙ held.next (omega arith) lh x lx);
          odd = λ lw lh x lx. absurd (omega (arith, most, lw));
          next = λ lw lh x lx. absurd (omega (arith, most, lw));
          made_odd = λ some x lx.
              let last : 2 * y + 1 ≡ before (2 * (y + 1)) = grind arith in
              subst (λ (m : ℕ). t (m % 4) x ≡ analysis_level k (2 * h) (2 * w) g m (side_place w x)) last
              (odd_done k h w g y b s even_is held.made_odd odd_is below t odd_step even_step others x lx);
          made_even = λ some le x lx.
              let last : 2 * y ≡ 2 * (y + 1) - 2 = omega arith in
              subst (λ (m : ℕ). t (m % 4) x ≡ analysis_level k (2 * h) (2 * w) g m (side_place w x)) last
              (even_done k h w g y b s even_is held.made_odd odd_is below t odd_step even_step others x lx);
        }

-- ---- the pair that was made last

module _ (k : Wavelet) (h w n y : ℕ) (g s : Grid) (some : 1 ≤ y) (few : n ≤ 2 * y + 2) (held : HoldsRows k h w n y g s) where
  abbrev level : Grid
  level = analysis_level k (2 * h) (2 * w) g

  last_even : (x : ℕ) → x < 2 * w → s (2 * (y - 1) % 4) x ≡ level (2 * (y - 1) + 0) (side_place w x)
  last_even x lx =
      let is : 2 * y - 2 ≡ 2 * (y - 1) = omega arith in
      let whole : 2 * (y - 1) ≡ 2 * (y - 1) + 0 = omega arith in
      subst (λ (m : ℕ). s (m % 4) x ≡ level m (side_place w x)) is (held.made_even some few x lx) ∙ ap (λ (m : ℕ). level m (side_place w x)) whole

  last_odd : (x : ℕ) → x < 2 * w → s ((2 * (y - 1) + 1) % 4) x ≡ level (2 * (y - 1) + 1) (side_place w x)
  last_odd x lx =
      let is : before (2 * y) ≡ 2 * (y - 1) + 1 = grind arith in
      subst (λ (m : ℕ). s (m % 4) x ≡ level m (side_place w x)) is (held.made_odd some x lx)

  pub pair_ll : (x : ℕ) → x < w → s (2 * (y - 1) % 4) x ≡ every_other 0 0 level (y - 1) x
  pair_ll x lx = last_even x (omega arith) ∙ side_even (level (2 * (y - 1) + 0)) w x lx

  pub pair_hl : (x : ℕ) → x < w → s (2 * (y - 1) % 4) (w + x) ≡ every_other 0 1 level (y - 1) x
  pair_hl x lx = last_even (w + x) (omega arith) ∙ side_odd (level (2 * (y - 1) + 0)) w x lx

  pub pair_lh : (x : ℕ) → x < w → s ((2 * (y - 1) + 1) % 4) x ≡ every_other 1 0 level (y - 1) x
  pair_lh x lx = last_odd x (omega arith) ∙ side_even (level (2 * (y - 1) + 1)) w x lx

  pub pair_hh : (x : ℕ) → x < w → s ((2 * (y - 1) + 1) % 4) (w + x) ≡ every_other 1 1 level (y - 1) x
  pair_hh x lx = last_odd (w + x) (omega arith) ∙ side_odd (level (2 * (y - 1) + 1)) w x lx

-- a row more of a band, or of what is left
pub band_more : {X : Type 0} (value : X → ℤ) (none : X) (g : Grid) (l : LevelDown X) (k : Wavelet) (h w n py px : ℕ) → l.wavelet ≡ k → l.h ≡ h → l.w ≡ w → l.made ≡ n + 1
    → (old new : Raster X) → IsRowPut value none l.w (l.made - 1) (made_row py px g l) old new
    → SameInside n w (grid_of value none old) (every_other py px (analysis_level k (2 * h) (2 * w) g)) → SameInside l.made w (grid_of value none new) (every_other py px (analysis_level k (2 * h) (2 * w) g))
band_more value none g l k h w n py px ek eh ew more old new put before y x ly lx = elim (cases_eq y (l.made - 1)) [
  | inl e ↦ rw e (put.here x (omega (arith, lx, ew)) ∙ rw (ek, eh, ew) refl)
  | inr ne ↦ put.others y x ne ∙ before y x (omega (arith, ly, more, ne)) lx
]

-- a row of a level is the two rows of its bands, woven
pub pair_woven : (w y py : ℕ) (e o : Line) (f : Grid) → ((x : ℕ) → x < w → e x ≡ every_other py 0 f y x) → ((x : ℕ) → x < w → o x ≡ every_other py 1 f y x)
    → (x : ℕ) → x < 2 * w → woven e o x ≡ f (2 * y + py) x
pair_woven w y py e o f low high =
    woven_by (λ i v. v ≡ f (2 * y + py) i) w e o (λ j lj. let whole : 2 * j + 0 ≡ 2 * j = omega arith in low j lj ∙ ap (f (2 * y + py)) whole) high
