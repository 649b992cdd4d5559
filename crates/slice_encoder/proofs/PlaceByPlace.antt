-- Restoring the places of a rectangle one after another.
use Rattle.std.proofs.Common.{◌≡◌, ◌≢◌, ◌∙◌, sym, ap, subst, refl, ℕ, zero, suc, ◌+◌, ◌-◌, ◌*◌, ◌/◌, ◌^◌, ◌<◌, ◌≤◌, List, [], get_or, set, arith, inl, inr, ℤ, pos}
use Rattle.std.specs.Prelude.{◌⊎◌, unsigned_abs}
use Rattle.std.proofs.lemmas.Bool.{cases_eq}
use Rattle.std.proofs.lemmas.List.{get_or-set_same, get_or-set_other, length-set}
use Rattle.planes.specs.declared.Rect.{Rect}
use Rattle.planes.specs.Numbers.{Within}
use Rattle.planes.specs.Raster.{Grid, Raster, height, at, row_of, with_place}
use Rattle.planes.specs.Rect.{IsInRect}
use Rattle.planes.proofs.Floors.{wider}
use Rattle.dc_prediction.specs.Prediction.{prediction, AllLookedAt}
use Rattle.dc_prediction.proofs.PredictionLemmas.{mean_small, prediction_same, prediction_corner, prediction_first_row, prediction_first_column, prediction_inside}
use Rattle.dc_prediction.proofs.Rectangles.{in_rect_or_not}
use Rattle.quant_factors.specs.Factors.{forward_of}
use Rattle.quant_factors.proofs.QuantLemmas.{coarser, abs-forward}
use Rattle.slice_encoder.specs.Loop.{restored_value}
use Rattle.slice_encoder.specs.RectTrials.{CanTryRect}
use Rattle.slice_encoder.proofs.RectSoFar.{Before, TriedSoFar}
use Rattle.slice_encoder.proofs.Coarsest.{factor-fourth}
use Rattle.slice_encoder.proofs.Made.{zero_within}

pub forward_small : (r : ℤ) (i : ℕ) → i ≤ 127 → unsigned_abs (forward_of r i) ≤ unsigned_abs r
forward_small r i le =
    omega (arith, coarser r 0 i (omega arith) le, abs-forward r 0, ap (λ (f : ℕ). 4 * unsigned_abs r / f) (factor-fourth 0))

-- a prediction is no greater than what it looks at
pub prediction_looked : (m : ℕ) (g : Grid) (y x : ℕ) → AllLookedAt (λ j i. Within m (g j i)) y x → Within m (prediction g y x)
prediction_looked m g zero zero l = rw (prediction_corner g) (zero_within m)
prediction_looked m g zero (suc x) l = rw (prediction_first_row g (suc x) (omega arith)) (l.left (omega arith))
prediction_looked m g (suc y) zero l = rw (prediction_first_column g (suc y) (omega arith)) (l.above (omega arith))
prediction_looked m g (suc y) (suc x) l =
    rw (prediction_inside g (suc y) (suc x) (omega arith) (omega arith))
    (mean_small m (g (suc y) (suc x - 1)) (g (suc y - 1) (suc x - 1)) (g (suc y - 1) (suc x)) (l.left (omega arith)) (l.corner (omega arith) (omega arith)) (l.above (omega arith)))

-- ---- one place written

module _ (p : Raster ℤ) (y x : ℕ) (v : ℤ) (lt : y < height p) where
  pub height-with_place : height (with_place p y x v) ≡ height p
  height-with_place = length-set p.rows y (set (row_of p y) x v)

  pub at_elsewhere : (j i : ℕ) → ((j ≢ y) ⊎ (i ≢ x)) → at (with_place p y x v) j i ≡ at p j i
  at_elsewhere j i other = elim (cases_eq j y) as (λ _. at (with_place p y x v) j i ≡ at p j i) [
    | inr ne ↦ ap (λ (r : List ℤ). get_or r i (pos 0)) (get_or-set_other p.rows y j (set (row_of p y) x v) [] ne)
    | inl e ↦ same_row j i e other
  ]
    where
      same_row : (j i : ℕ) → j ≡ y → ((j ≢ y) ⊎ (i ≢ x)) → at (with_place p y x v) j i ≡ at p j i
      same_row j i e other = elim other as (λ _. at (with_place p y x v) j i ≡ at p j i) [
        | inl ne ↦ absurd (ne e)
        | inr ne ↦
            rw e (ap (λ (r : List ℤ). get_or r i (pos 0)) (get_or-set_same p.rows y (set (row_of p y) x v) [] lt)
            ∙ get_or-set_other (row_of p y) x i v (pos 0) ne)
      ]

  -- predictions up to the place are as before
  pub predicted_on : (j i : ℕ) → ((j < y) ⊎ ((j ≡ y) × (i ≤ x))) → prediction (at (with_place p y x v)) j i ≡ prediction (at p) j i
  predicted_on j i before = prediction_same (at (with_place p y x v)) (at p) j i (record {
    left = λ some. at_elsewhere j (i - 1) (elim before [ inl lt ↦ inl (omega arith) | inr here ↦ inr (omega (arith, here.1)) ]);
    above = λ some. at_elsewhere (j - 1) i (inl (elim before [ inl lt ↦ omega arith | inr here ↦ omega (arith, here.0) ]));
    corner = λ some more. at_elsewhere (j - 1) (i - 1) (inl (elim before [ inl lt ↦ omega arith | inr here ↦ omega (arith, here.0) ]));
  })

-- ---- the places so far

module _ (r : Rect) (coefficients : Grid) (old new : Raster ℤ) (q y x : ℕ) (can : CanTryRect r coefficients old) (s : TriedSoFar coefficients q r y x old new) (here : IsInRect r y x) where
  one_looked : (j i : ℕ) → Before y x j i → ((IsInRect r j i → ⊥) → Within (3 * 2 ^ 27 + 2) (at old j i)) → Within (3 * 2 ^ 27 + 2) (at new j i)
  one_looked j i before outside = elim (in_rect_or_not r j i) as (λ _. Within (3 * 2 ^ 27 + 2) (at new j i)) [
    | inl inside ↦ s.small j i inside before
    | inr not ↦ subst (λ v. Within (3 * 2 ^ 27 + 2) v) (sym (s.stays j i (λ inside _. not inside))) (outside not)
  ]

  pub looked_small : AllLookedAt (λ j i. Within (3 * 2 ^ 27 + 2) (at new j i)) y x
  looked_small =
      let all = can.outside y x here in
      record {
        left = λ some. one_looked y (x - 1) (inr (refl, omega arith)) (all.left some);
        above = λ some. one_looked (y - 1) x (inl (omega arith)) (all.above some);
        corner = λ some more. one_looked (y - 1) (x - 1) (inl (omega arith)) (all.corner some more);
      }

pub looked_wider : (m n : ℕ) (g : Grid) (y x : ℕ) → m ≤ n → AllLookedAt (λ j i. Within m (g j i)) y x → AllLookedAt (λ j i. Within n (g j i)) y x
looked_wider m n g y x le l = record {
  left = λ some. wider m n _ le (l.left some);
  above = λ some. wider m n _ le (l.above some);
  corner = λ some more. wider m n _ le (l.corner some more);
}

module _ (y x : ℕ) where
  -- a place before the next one is this one or one before
  pub here_or_before : (j i : ℕ) → Before y (x + 1) j i → ((j ≡ y) × (i ≡ x)) ⊎ (Before y x j i × ((j ≢ y) ⊎ (i ≢ x)))
  here_or_before j i before = elim before [
    | inl less ↦ inr (inl less, inl (omega arith))
    | inr row ↦ elim (cases_eq i x) [
      | inl e ↦ inl (row.0, e)
      | inr ne ↦ inr (inr (row.0, omega (arith, row.1)), inr ne)
    ]
  ]

  pub up_to : (j i : ℕ) → Before y x j i → (j < y) ⊎ ((j ≡ y) × (i ≤ x))
  up_to j i before = elim before [ inl less ↦ inl less | inr row ↦ inr (row.0, omega (arith, row.1)) ]

module _ (g : Grid) (q : ℕ) (r : Rect) (y x : ℕ) (old new : Raster ℤ) (v : ℤ) (s : TriedSoFar g q r y x old new) (here : IsInRect r y x) (lt : y < height new)
    (is : v ≡ restored_value (g y x) q (prediction (at new) y x)) (small : Within (3 * 2 ^ 27 + 2) v) (written : at (with_place new y x v) y x ≡ v) where
  abbrev next : Raster ℤ
  next = with_place new y x v

  done_at : (j i : ℕ) → IsInRect r j i → Before y (x + 1) j i → at next j i ≡ restored_value (g j i) q (prediction (at next) j i)
  done_at j i h before = elim (here_or_before y x j i before) as (λ _. at next j i ≡ restored_value (g j i) q (prediction (at next) j i)) [
    | inl e ↦
        rw (e.0, e.1) (written ∙ is ∙ sym (ap (λ p. restored_value (g y x) q p) (predicted_on new y x v lt y x (inr (refl, omega arith)))))
    | inr b ↦
        at_elsewhere new y x v lt j i b.1 ∙ s.done j i h b.0 ∙ sym (ap (λ p. restored_value (g j i) q p) (predicted_on new y x v lt j i (up_to y x j i b.0)))
  ]

  small_at : (j i : ℕ) → IsInRect r j i → Before y (x + 1) j i → Within (3 * 2 ^ 27 + 2) (at next j i)
  small_at j i h before = elim (here_or_before y x j i before) as (λ _. Within (3 * 2 ^ 27 + 2) (at next j i)) [
    | inl e ↦ rw (e.0, e.1) (subst (λ v. Within (3 * 2 ^ 27 + 2) v) (sym written) small)
    | inr b ↦ subst (λ v. Within (3 * 2 ^ 27 + 2) v) (sym (at_elsewhere new y x v lt j i b.1)) (s.small j i h b.0)
  ]

  stays_at : (j i : ℕ) → (IsInRect r j i → Before y (x + 1) j i → ⊥) → at next j i ≡ at old j i
  stays_at j i not =
      at_elsewhere new y x v lt j i other ∙ s.stays j i (λ h before. not h (elim before [ inl less ↦ inl less | inr row ↦ inr (row.0, omega (arith, row.1)) ]))
    where
      other : (j ≢ y) ⊎ (i ≢ x)
      other = elim (cases_eq j y) [
        | inr ne ↦ inl ne
        | inl ej ↦ elim (cases_eq i x) [
          | inr ne ↦ inr ne
          | inl ei ↦ absurd (not (rw (ej, ei) here) (inr (ej, omega arith)))
        ]
      ]

  pub tried_next : TriedSoFar g q r y (x + 1) old next
  tried_next = record {
    same_width = s.same_width;
    same_height = height-with_place new y x v lt ∙ s.same_height;
    done = done_at;
    small = small_at;
    stays = stays_at;
  }
