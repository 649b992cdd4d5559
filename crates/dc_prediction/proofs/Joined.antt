-- Places that are restored one after the other.
use Rattle.std.proofs.Common.{◌≡◌, ◌∙◌, refl, sym, ap, subst, ℕ, ◌+◌, ◌<◌, ◌≤◌, arith, inl, inr, ℤ, ◌+ℤ◌}
use Rattle.std.specs.Prelude.{◌⊎◌}
use Rattle.std.proofs.lemmas.Bool.{cases_lt}
use Rattle.planes.specs.declared.Rect.{Rect}
use Rattle.planes.specs.Numbers.{Within}
use Rattle.planes.specs.Raster.{Grid}
use Rattle.planes.specs.Rect.{IsInRect}
use Rattle.dc_prediction.specs.Prediction.{prediction, AllLookedAt}
use Rattle.dc_prediction.specs.Restoring.{row_rect, IsBefore}
use Rattle.dc_prediction.specs.AnyWidth.{MayRestore, Restores, Stops, IsEarlier}
use Rattle.dc_prediction.proofs.PredictionLemmas.{prediction_same}
use Rattle.dc_prediction.proofs.Rectangles.{in_rect_or_not}

-- Places are those of two kinds, and the first do not look at the second.
pub record IsMadeOf (R P Q : ℕ → ℕ → Type 0) : Type 0 where
  pub either : (y x : ℕ) → R y x → (P y x ⊎ Q y x)
  pub first : (y x : ℕ) → P y x → R y x
  pub second : (y x : ℕ) → Q y x → R y x
  pub apart : (y x : ℕ) → P y x → Q y x → ⊥
  pub not_looked_at : (y x : ℕ) → P y x → AllLookedAt (λ j i. Q j i → ⊥) y x

module _ (limit : ℕ → ℕ) (R P Q : ℕ → ℕ → Type 0) (made : IsMadeOf R P Q) (old mid new : Grid) (a : Restores limit P old mid) (b : Restores limit Q mid new) where
  same_around : (y x : ℕ) → P y x → AllLookedAt (λ j i. mid j i ≡ new j i) y x
  same_around y x here =
      let no = made.not_looked_at y x here in
      record {
        left = λ hx. sym (b.stays _ _ (no.left hx));
        above = λ hy. sym (b.stays _ _ (no.above hy));
        corner = λ hy hx. sym (b.stays _ _ (no.corner hy hx));
      }

  pub joined : Restores limit R old new
  joined = record {
    restored = λ y x here. elim (made.either y x here) [
      | inl one ↦ b.stays y x (made.apart y x one) ∙ a.restored y x one
          ∙ ap (λ v. old y x +ℤ v) (prediction_same mid new y x (same_around y x one))
      | inr two ↦ b.restored y x two ∙ ap (λ v. v +ℤ prediction new y x) (a.stays y x (λ one. made.apart y x one two))
    ];
    small = λ y x here. elim (made.either y x here) [
      | inl one ↦ subst (λ (v : ℤ). Within (limit (y + x + 1)) v) (sym (b.stays y x (made.apart y x one))) (a.small y x one)
      | inr two ↦ b.small y x two
    ];
    stays = λ y x not. b.stays y x (λ two. not (made.second y x two)) ∙ a.stays y x (λ one. not (made.first y x one));
  }

-- ---- a part of a rectangle, behind the part that is restored

module _ (most room : ℕ) (limit : ℕ → ℕ) (r r1 r2 : Rect) (inside : (y x : ℕ) → IsInRect r2 y x → IsInRect r y x) (apart : (y x : ℕ) → IsInRect r1 y x → IsInRect r2 y x → ⊥)
    (around : (y x : ℕ) → IsInRect r2 y x → AllLookedAt (λ j i. (IsInRect r2 j i → ⊥) → IsInRect r j i → IsInRect r1 j i) y x)
    (old mid : Grid) (may : MayRestore most room limit r old) (a : Restores limit (IsInRect r1) old mid) where
  pub may_next : MayRestore most room limit r2 mid
  may_next = record {
    in_room = λ y x here. may.in_room y x (inside y x here);
    residuals = λ y x here. rw (a.stays y x (λ one. apart y x one here)) (may.residuals y x (inside y x here));
    outside = λ y x here.
        let all = may.outside y x (inside y x here) in
        let near = around y x here in
        let small = λ (j i : ℕ) (before : (IsInRect r j i → ⊥) → Within (limit (j + i + 1)) (old j i)) (one : IsInRect r j i → IsInRect r1 j i).
        elim (in_rect_or_not r1 j i) as (λ _. Within (limit (j + i + 1)) (mid j i)) [
          | inl done ↦ a.small j i done
          | inr not ↦ subst (λ (v : ℤ). Within (limit (j + i + 1)) v) (sym (a.stays j i not)) (before (λ q. not (one q)))
        ] in
        record {
          left = λ hx out. small _ _ (all.left hx) (near.left hx out);
          above = λ hy out. small _ _ (all.above hy) (near.above hy out);
          corner = λ hy hx out. small _ _ (all.corner hy hx) (near.corner hy hx out);
        };
  }

-- ---- what stops behind places that are restored

module _ (limit : ℕ → ℕ) (keeps : ℤ → Type 0) (r so_far r1 r2 : Rect) (made : IsMadeOf (IsInRect so_far) (IsInRect r1) (IsInRect r2))
    (inside : (j i : ℕ) → IsInRect so_far j i → IsInRect r j i)
    (ordered : (j i y x : ℕ) → IsInRect r1 j i → IsInRect r2 y x → IsBefore j i y x)
    (only : (j i y x : ℕ) → IsInRect r j i → IsInRect r2 y x → IsBefore j i y x → IsInRect so_far j i)
    (old mid new : Grid) (a : Restores limit (IsInRect r1) old mid) where
  earlier : (y x : ℕ) → IsInRect r2 y x → IsMadeOf (IsEarlier r y x) (IsInRect r1) (IsEarlier r2 y x)
  earlier y x here = record {
    either = λ j i q. elim (made.either j i (only j i y x q.0 here q.1)) [ inl one ↦ inl one | inr two ↦ inr (two, q.1) ];
    first = λ j i one. (inside j i (made.first j i one), ordered j i y x one here);
    second = λ j i two. (inside j i (made.second j i two.0), two.1);
    apart = λ j i one two. made.apart j i one two.0;
    not_looked_at = λ j i one.
        let no = made.not_looked_at j i one in
        record { left = λ hx two. no.left hx two.0; above = λ hy two. no.above hy two.0; corner = λ hy hx two. no.corner hy hx two.0 };
  }

  pub stops_behind : Stops limit keeps r2 mid new → Stops limit keeps r old new
  stops_behind stop =
      let y = stop.0 in
      let x = stop.1 in
      let s = stop.2 in (
        y,
        x,
        record {
          here = inside y x (made.second y x s.here);
          before = joined limit (IsEarlier r y x) (IsInRect r1) (IsEarlier r2 y x) (earlier y x s.here) old mid new a s.before;
          passes = λ kept. s.passes (subst (λ (v : ℤ). keeps (v +ℤ prediction new y x)) (sym (a.stays y x (λ one. made.apart y x one s.here))) kept);
        },
      )

-- ---- a rectangle by its rows

abbrev pub upper : Rect → ℕ → Rect
upper r y = record { x0 = r.x0; x1 = r.x1; y0 = r.y0; y1 = y }

-- the rows above row y, and row y
pub upper_row : (r : Rect) (y : ℕ) → r.y0 ≤ y → IsMadeOf (IsInRect (upper r (y + 1))) (IsInRect (upper r y)) (IsInRect (row_rect y r.x0 r.x1))
upper_row r y from = record {
  either = λ j i q. elim (cases_lt j y) [
    | inl above ↦ inl (record { left = q.left; right = q.right; top = q.top; bottom = above })
    | inr here ↦ inr (record { left = q.left; right = q.right; top = here; bottom = q.bottom })
  ];
  first = λ j i q. record { left = q.left; right = q.right; top = q.top; bottom = omega (arith, q.bottom) };
  second = λ j i q. record { left = q.left; right = q.right; top = omega (arith, q.top); bottom = q.bottom };
  apart = λ j i p q. omega (arith, p.bottom, q.top);
  not_looked_at = λ j i p. record {
    left = λ hx q. omega (arith, p.bottom, q.top);
    above = λ hy q. omega (arith, p.bottom, q.top);
    corner = λ hy hx q. omega (arith, p.bottom, q.top);
  };
}

pub may_row : (most room : ℕ) (limit : ℕ → ℕ) (r : Rect) (y : ℕ) → r.y0 ≤ y → y < r.y1 → (old mid : Grid) → MayRestore most room limit r old → Restores limit (IsInRect (upper r y)) old mid
    → MayRestore most room limit (row_rect y r.x0 r.x1) mid
may_row most room limit r y from to =
    may_next most room limit r (upper r y) (row_rect y r.x0 r.x1)
    (λ j i q. record { left = q.left; right = q.right; top = omega (arith, q.top); bottom = omega (arith, q.bottom) })
    (λ j i p q. omega (arith, p.bottom, q.top))
    (λ j i here. record {
      left = λ hx out q. absurd (out (record { left = q.left; right = q.right; top = here.top; bottom = here.bottom }));
      above = λ hy out q. record { left = q.left; right = q.right; top = q.top; bottom = omega (arith, here.bottom) };
      corner = λ hy hx out q. record { left = q.left; right = q.right; top = q.top; bottom = omega (arith, here.bottom) };
    })

pub rect_stops : (limit : ℕ → ℕ) (keeps : ℤ → Type 0) (r : Rect) (y : ℕ) → r.y0 ≤ y → y < r.y1 → (old mid new : Grid) → Restores limit (IsInRect (upper r y)) old mid
    → Stops limit keeps (row_rect y r.x0 r.x1) mid new → Stops limit keeps r old new
rect_stops limit keeps r y from to =
    stops_behind limit keeps r (upper r (y + 1)) (upper r y) (row_rect y r.x0 r.x1) (upper_row r y from)
    (λ j i q. record { left = q.left; right = q.right; top = q.top; bottom = omega (arith, q.bottom) })
    (λ j i k l p q. inl (omega (arith, p.bottom, q.top)))
    (λ j i k l q here before. record {
      left = q.left;
      right = q.right;
      top = q.top;
      bottom = elim before [ inl above ↦ omega (arith, here.bottom, above) | inr beside ↦ omega (arith, beside.0, here.bottom) ];
    })

-- ---- a row by its places

-- the places before a place, and it
pub places_split : (y x0 x : ℕ) → x0 ≤ x → IsMadeOf (IsInRect (row_rect y x0 (x + 1))) (IsInRect (row_rect y x0 x)) (IsInRect (row_rect y x (x + 1)))
places_split y x0 x le = record {
  either = λ j i q. elim (cases_lt i x) [
    | inl before ↦ inl (record { left = q.left; right = before; top = q.top; bottom = q.bottom })
    | inr from ↦ inr (record { left = from; right = q.right; top = q.top; bottom = q.bottom })
  ];
  first = λ j i q. record { left = q.left; right = omega (arith, q.right); top = q.top; bottom = q.bottom };
  second = λ j i q. record { left = omega (arith, q.left); right = q.right; top = q.top; bottom = q.bottom };
  apart = λ j i p q. omega (arith, p.right, q.left);
  not_looked_at = λ j i p. record {
    left = λ hx q. omega (arith, p.right, q.left);
    above = λ hy q. omega (arith, p.right, q.left);
    corner = λ hy hx q. omega (arith, p.right, q.left);
  };
}

pub may_place : (most room : ℕ) (limit : ℕ → ℕ) (y x0 x x1 : ℕ) → x0 ≤ x → x < x1 → (old mid : Grid) → MayRestore most room limit (row_rect y x0 x1) old → Restores limit (IsInRect (row_rect y x0 x)) old mid
    → MayRestore most room limit (row_rect y x (x + 1)) mid
may_place most room limit y x0 x x1 from to =
    may_next most room limit (row_rect y x0 x1) (row_rect y x0 x) (row_rect y x (x + 1))
    (λ j i q. record { left = omega (arith, q.left); right = omega (arith, q.right); top = q.top; bottom = q.bottom })
    (λ j i p q. omega (arith, p.right, q.left))
    (λ j i here. record {
      left = λ hx out q. record { left = q.left; right = omega (arith, here.right); top = q.top; bottom = q.bottom };
      above = λ hy out q. absurd (omega (arith, q.top, here.bottom));
      corner = λ hy hx out q. absurd (omega (arith, q.top, here.bottom));
    })

pub row_stops : (limit : ℕ → ℕ) (keeps : ℤ → Type 0) (y x0 x x1 : ℕ) → x0 ≤ x → x < x1 → (old mid new : Grid) → Restores limit (IsInRect (row_rect y x0 x)) old mid
    → Stops limit keeps (row_rect y x (x + 1)) mid new → Stops limit keeps (row_rect y x0 x1) old new
row_stops limit keeps y x0 x x1 from to =
    stops_behind limit keeps (row_rect y x0 x1) (row_rect y x0 (x + 1)) (row_rect y x0 x) (row_rect y x (x + 1)) (places_split y x0 x from)
    (λ j i q. record { left = q.left; right = omega (arith, q.right); top = q.top; bottom = q.bottom })
    (λ j i k l p q. inr (omega (arith, p.top, p.bottom, q.top, q.bottom), omega (arith, p.right, q.left)))
    (λ j i k l q here before. record {
      left = q.left;
      right = elim before [ inl above ↦ omega (arith, q.top, here.bottom, above) | inr beside ↦ omega (arith, beside.1, here.right) ];
      top = q.top;
      bottom = q.bottom;
    })

-- nothing is in a rectangle of no rows or no columns
pub nothing : (limit : ℕ → ℕ) (r : Rect) (g : Grid) → (r.x1 ≤ r.x0) ⊎ (r.y1 ≤ r.y0) → Restores limit (IsInRect r) g g
nothing limit r g empty =
    let none = λ (y x : ℕ) (q : IsInRect r y x). elim empty as (λ _. ⊥) [ inl narrow ↦ omega (arith, q.left, q.right) | inr low ↦ omega (arith, q.top, q.bottom) ] in
    record {
      restored = λ y x q. absurd (none y x q);
      small = λ y x q. absurd (none y x q);
      stays = λ y x not. refl;
    }
