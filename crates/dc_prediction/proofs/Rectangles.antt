-- Rectangles make the band.
use Rattle.std.proofs.Common.{◌≡◌, ◌∙◌, sym, ap, ℕ, zero, suc, ◌+◌, ◌-◌, ◌<◌, arith, inl, inr, ℤ, ◌+ℤ◌}
use Rattle.std.specs.Prelude.{◌⊎◌}
use Rattle.std.proofs.lemmas.Bool.{cases_lt}
use Rattle.planes.specs.declared.Rect.{Rect}
use Rattle.planes.specs.Raster.{Grid, Raster, at}
use Rattle.planes.specs.Rect.{IsInRect}
use Rattle.dc_prediction.specs.Prediction.{prediction, restored, AllLookedAt}
use Rattle.dc_prediction.specs.Restoring.{AllLookedAtOutside, RestoresRect}
use Rattle.dc_prediction.proofs.PredictionLemmas.{prediction_same}
use Rattle.dc_prediction.proofs.Bands.{is_restored}

-- a place lies in a rectangle, or it does not
pub in_rect_or_not : (r : Rect) (y x : ℕ) → IsInRect r y x ⊎ (IsInRect r y x → ⊥)
in_rect_or_not r y x = elim (cases_lt x r.x0) [
  | inl h ↦ inr (λ i. omega (arith, i.left))
  | inr left ↦ elim (cases_lt x r.x1) [
    | inr h ↦ inr (λ i. omega (arith, i.right))
    | inl right ↦ elim (cases_lt y r.y0) [
      | inl h ↦ inr (λ i. omega (arith, i.top))
      | inr top ↦ elim (cases_lt y r.y1) [
        | inr h ↦ inr (λ i. omega (arith, i.bottom))
        | inl bottom ↦ inl (record { left = left; right = right; top = top; bottom = bottom })
      ]
    ]
  ]
]

module _ (r : Grid) (rect : Rect) (old new : Raster ℤ) (restores : RestoresRect rect old new)
    (outside : AllLookedAtOutside (λ y x. at old y x ≡ restored r y x) rect) (residuals : (y x : ℕ) → IsInRect rect y x → at old y x ≡ r y x) where
  -- what is looked at is restored, where that is so in the rectangle
  looked_at : (y x : ℕ) → IsInRect rect y x → ((j i : ℕ) → j + i < y + x → IsInRect rect j i → at new j i ≡ restored r j i) → AllLookedAt (λ j i. at new j i ≡ restored r j i) y x
  looked_at y x here earlier =
      let all = outside y x here in
      let one = λ (j i : ℕ) (lt : j + i < y + x) (old_is : (IsInRect rect j i → ⊥) → at old j i ≡ restored r j i). elim (in_rect_or_not rect j i) as (λ _. at new j i ≡ restored r j i) [
        | inl inside ↦ earlier j i lt inside
        | inr not ↦ restores.stays j i not ∙ old_is not
      ] in
      record {
        left = λ hx. one y (x - 1) (omega arith) (all.left hx);
        above = λ hy. one (y - 1) x (omega arith) (all.above hy);
        corner = λ hy hx. one (y - 1) (x - 1) (omega arith) (all.corner hy hx);
      }

  rect_restored : (n y x : ℕ) → y + x < n → IsInRect rect y x → at new y x ≡ restored r y x
  rect_restored zero y x lt here = absurd (omega arith)
  rect_restored (suc n) y x lt here =
      let around = looked_at y x here (λ j i less inside. rect_restored n j i (omega arith) inside) in
      restores.restored y x here
      ∙ ap (λ v. at old y x +ℤ v) (prediction_same (at new) (restored r) y x around)
      ∙ ap (λ v. v +ℤ prediction (restored r) y x) (residuals y x here)
      ∙ sym (is_restored r y x)

  pub rect_makes_the_band : (y x : ℕ) → IsInRect rect y x → at new y x ≡ restored r y x
  rect_makes_the_band y x here = rect_restored (y + x + 1) y x (omega arith) here
