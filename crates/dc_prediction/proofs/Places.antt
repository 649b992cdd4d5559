-- One place that is restored.
use Rattle.std.proofs.Common.{◌≡◌, ◌≢◌, ◌∙◌, refl, sym, ap, subst, ℕ, ◌+◌, ◌-◌, ◌<◌, ◌≤◌, slice_set, get_or, arith, inl, inr, ℤ, ◌+ℤ◌, []}
use Rattle.std.proofs.lemmas.Int.{ints}
use Rattle.std.specs.Prelude.{◌⊎◌}
use Rattle.std.proofs.lemmas.Bool.{cases_eq}
use Rattle.std.proofs.lemmas.List.{get_or-set_same, get_or-set_other}
use Rattle.planes.specs.Numbers.{Within}
use Rattle.planes.specs.Raster.{Grid, Raster, height, row_of, with_place}
use Rattle.planes.specs.Rect.{IsInRect}
use Rattle.planes.specs.Valued.{grid_of}
use Rattle.planes.proofs.Floors.{wider}
use Rattle.dc_prediction.specs.Prediction.{prediction, AllLookedAt}
use Rattle.dc_prediction.specs.Restoring.{row_rect}
use Rattle.dc_prediction.specs.AnyWidth.{MayRestore, Restores, Stops}
use Rattle.dc_prediction.proofs.PredictionLemmas.{prediction_same, prediction_within}

abbrev pub one_place : ℕ → ℕ → ℕ → ℕ → Type 0
one_place y x = IsInRect (row_rect y x (x + 1))

-- ---- how large what it is made of can be

module _ (most room : ℕ) (limit : ℕ → ℕ) (rise : (d : ℕ) → limit d ≤ limit (d + 1)) (y x : ℕ) (g : Grid) (may : MayRestore most room limit (row_rect y x (x + 1)) g) where
  here : one_place y x y x
  here = record { left = omega arith; right = omega arith; top = omega arith; bottom = omega arith }

  pub own_small : Within most (g y x)
  own_small = may.residuals y x here

  pub in_room : limit (y + x) ≤ room
  in_room = may.in_room y x here

  pub near_small : AllLookedAt (λ j i. Within (limit (y + x)) (g j i)) y x
  near_small =
      let all = may.outside y x here in
      let by = λ (d : ℕ) (v : ℤ) (e : d ≡ y + x) (p : Within (limit d) v). subst (λ (n : ℕ). Within (limit n) v) e p in
      record {
        left = λ hx. by (y + (x - 1) + 1) (g y (x - 1)) (omega arith) (all.left hx (λ q. omega (arith, q.left)));
        above = λ hy. by (y - 1 + x + 1) (g (y - 1) x) (omega arith) (all.above hy (λ q. omega (arith, q.top)));
        corner = λ hy hx.
            let d = y - 1 + (x - 1) + 1 in
            by (d + 1) (g (y - 1) (x - 1)) (omega arith) (wider (limit d) (limit (d + 1)) (g (y - 1) (x - 1)) (rise d) (all.corner hy hx (λ q. omega (arith, q.top))));
      }

  pub near_in_room : AllLookedAt (λ j i. Within room (g j i)) y x
  near_in_room =
      let all = near_small in
      let to = λ (v : ℤ) (p : Within (limit (y + x)) v). wider (limit (y + x)) room v in_room p in
      record { left = λ hx. to _ (all.left hx); above = λ hy. to _ (all.above hy); corner = λ hy hx. to _ (all.corner hy hx) }

  pub prediction_small : Within (limit (y + x)) (prediction g y x)
  prediction_small = prediction_within (limit (y + x)) g y x near_small

  pub sum_in_room : most ≤ room → (a b : ℤ) → a ≡ g y x → b ≡ prediction g y x → Within (room + room + 2) (a +ℤ b)
  sum_in_room le a b a_is b_is = rw (a_is, b_is) (sum_within most (limit (y + x)) room (g y x) (prediction g y x) le in_room own_small prediction_small)
    where
      sum_within : (k m n : ℕ) (a b : ℤ) → k ≤ n → m ≤ n → Within k a → Within m b → Within (n + n + 2) (a +ℤ b)
      sum_within k m n a b lk lm pa pb = record { low = omega (arith, ints); high = omega (arith, ints) }

-- ---- what is put there

module _ {X : Type 0} (value : X → ℤ) (none : X) (limit : ℕ → ℕ) (p : Raster X) (y x : ℕ) (v : X) (down : y < height p)
    (put : grid_of value none (with_place p y x v) y x ≡ value v) where
  abbrev pub old : Grid
  old = grid_of value none p

  abbrev pub new : Grid
  new = grid_of value none (with_place p y x v)

  other : (j i : ℕ) → (j ≢ y) ⊎ (i ≢ x) → new j i ≡ old j i
  other j i ne = elim (cases_eq j y) as (λ _. new j i ≡ old j i) [
    | inr apart ↦ ap (λ r. value (get_or r i none)) (get_or-set_other p.rows y j (slice_set (row_of p y) x v) [] apart)
    | inl same ↦
        let beside : i ≢ x = elim ne as (λ _. i ≢ x) [ inl apart ↦ absurd (apart same) | inr ok ↦ ok ] in
        let row : row_of (with_place p y x v) y ≡ slice_set (row_of p y) x v = get_or-set_same p.rows y (slice_set (row_of p y) x v) [] down in
        rw same (ap (λ r. value (get_or r i none)) row ∙ ap value (get_or-set_other (row_of p y) x i v none beside))
  ]

  around : AllLookedAt (λ j i. old j i ≡ new j i) y x
  around = record {
    left = λ hx. sym (other y (x - 1) (inr (omega arith)));
    above = λ hy. sym (other (y - 1) x (inl (omega arith)));
    corner = λ hy hx. sym (other (y - 1) (x - 1) (inl (omega arith)));
  }

  pub place_restores : value v ≡ old y x +ℤ prediction old y x → Within (limit (y + x + 1)) (old y x +ℤ prediction old y x) → Restores limit (one_place y x) old new
  place_restores is small = record {
    restored = λ j i q.
        let ej : j ≡ y = omega (arith, q.top, q.bottom) in
        let ei : i ≡ x = omega (arith, q.left, q.right) in
        rw (ej, ei) (put ∙ is ∙ ap (λ m. old y x +ℤ m) (prediction_same old new y x around));
    small = λ j i q.
        let ej : j ≡ y = omega (arith, q.top, q.bottom) in
        let ei : i ≡ x = omega (arith, q.left, q.right) in
        rw (ej, ei) (subst (λ (z : ℤ). Within (limit (y + x + 1)) z) (sym (put ∙ is)) small);
    stays = λ j i not. elim (cases_eq j y) as (λ _. new j i ≡ old j i) [
      | inr ne ↦ other j i (inl ne)
      | inl ej ↦ elim (cases_eq i x) as (λ _. new j i ≡ old j i) [
        | inr ne ↦ other j i (inr ne)
        | inl ei ↦ absurd (not (record { left = omega arith; right = omega arith; top = omega arith; bottom = omega arith }))
      ]
    ];
  }

-- a place that isn't put
pub place_stops : (limit : ℕ → ℕ) (keeps : ℤ → Type 0) (g : Grid) (y x : ℕ) → (keeps (g y x +ℤ prediction g y x) → ⊥) → Stops limit keeps (row_rect y x (x + 1)) g g
place_stops limit keeps g y x not =
    let none = λ (j i : ℕ) (q : IsInRect (row_rect y x (x + 1)) j i) (before : (j < y) ⊎ ((j ≡ y) × (i < x))).
    elim before as (λ _. ⊥) [ inl above ↦ omega (arith, q.top) | inr beside ↦ omega (arith, q.left, beside.1) ] in (
      y,
      x,
      record {
        here = record { left = omega arith; right = omega arith; top = omega arith; bottom = omega arith };
        before = record {
          restored = λ j i q. absurd (none j i q.0 q.1);
          small = λ j i q. absurd (none j i q.0 q.1);
          stays = λ j i out. refl;
        };
        passes = not;
      },
    )
