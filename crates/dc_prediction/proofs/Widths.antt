-- What restoring at any width says of planes of 64 and of 32 bits.
use Rattle.std.proofs.Common.{Bool, true, false, refl, ◌≡◌, subst, sym, ℕ, ◌+◌, ◌-◌, ◌*◌, ◌^◌, ◌≤◌, arith, inl, inr, ℤ, pos}
use Rattle.std.proofs.lemmas.Int.{ints}
use Rattle.std.proofs.lemmas.Bool.{cases_lt, cases_eq}
use Rattle.std.specs.Prelude.{◌⊎◌}
use Rattle.planes.specs.declared.Rect.{Rect}
use Rattle.bit_codes.specs.declared.TheConstants.{MAX_MAGNITUDE}
use Rattle.planes.specs.Numbers.{Within}
use Rattle.planes.specs.Raster.{Grid, Raster, height, at}
use Rattle.planes.specs.Rect.{IsInRect}
use Rattle.planes.specs.Bounded.{IsPlaneWithin}
use Rattle.dc_prediction.specs.Prediction.{reach}
use Rattle.dc_prediction.specs.Restoring.{CanRestore, RestoresRect, IsNarrow, IsStopped}
use Rattle.dc_prediction.specs.AnyWidth.{MayRestore, Restores, Stops, IsEarlier, IsAny}
use Rattle.dc_prediction.proofs.Rectangles.{in_rect_or_not}

-- ---- in 64 bits

pub wide_may : (rect : Rect) (p : Raster ℤ) → CanRestore rect p → MayRestore MAX_MAGNITUDE (2 ^ 61) (λ d. d * MAX_MAGNITUDE) rect (at p)
wide_may rect p can = record {
  in_room = λ y x q. omega (arith, q.right, q.bottom, can.x_inside, can.y_inside, can.narrow, can.low);
  residuals = can.residuals;
  outside = can.outside;
}

module _ (limit : ℕ → ℕ) (low : (y x : ℕ) → limit (y + x + 1) ≤ reach y x) (rect : Rect) (old new : Raster ℤ) (same_width : new.w ≡ old.w) (same_height : height new ≡ height old) where
  pub restores_rect : Restores limit (IsInRect rect) (at old) (at new) → RestoresRect rect old new
  restores_rect r = record {
    same_width = same_width;
    same_height = same_height;
    restored = r.restored;
    small = λ y x q. widened (limit (y + x + 1)) (reach y x) (at new y x) (low y x) (r.small y x q);
    stays = r.stays;
  }
    where
      widened : (m n : ℕ) (v : ℤ) → m ≤ n → Within m v → Within n v
      widened m n v le p = record { low = omega (arith, ints); high = omega (arith, ints) }

-- each value is kept, and so nothing stops
pub wide_restored : (rect : Rect) (old new : Grid) (b : Bool) → (b ≡ true → Restores (λ d. d * MAX_MAGNITUDE) (IsInRect rect) old new)
    → (b ≡ false → Stops (λ d. d * MAX_MAGNITUDE) (λ z. IsAny z) rect old new) → Restores (λ d. d * MAX_MAGNITUDE) (IsInRect rect) old new
wide_restored rect old new true restored stopped = restored refl
wide_restored rect old new false restored stopped = absurd ((stopped refl).2.passes refl)

-- ---- in 32 bits

in_narrow : (v : ℤ) → IsNarrow v → Within (2 ^ 18) v
in_narrow v n = record { low = n.low; high = n.high }

pub narrow_may : (rect : Rect) (p : Raster ℤ) → rect.x1 ≤ p.w → rect.y1 ≤ height p → IsPlaneWithin (pos (2 ^ 18)) p → MayRestore (2 ^ 18) (2 ^ 29) (λ _. 2 ^ 18) rect (at p)
narrow_may rect p lx ly all = record {
  in_room = λ y x q. omega arith;
  residuals = λ y x q. in_narrow (at p y x) (all y x (omega (arith, q.bottom)) (omega (arith, q.right)));
  outside = λ y x q. record {
    left = λ hx _. in_narrow (at p y (x - 1)) (all y (x - 1) (omega (arith, q.bottom)) (omega (arith, q.right)));
    above = λ hy _. in_narrow (at p (y - 1) x) (all (y - 1) x (omega (arith, q.bottom)) (omega (arith, q.right)));
    corner = λ hy hx _. in_narrow (at p (y - 1) (x - 1)) (all (y - 1) (x - 1) (omega (arith, q.bottom)) (omega (arith, q.right)));
  };
}

-- what was restored is narrow, and so is the plane
module _ (P : ℕ → ℕ → Type 0) (known : (y x : ℕ) → P y x ⊎ (P y x → ⊥)) (old new : Raster ℤ) (same_width : new.w ≡ old.w) (same_height : height new ≡ height old)
    (r : Restores (λ _. 2 ^ 18) P (at old) (at new)) (all : IsPlaneWithin (pos (2 ^ 18)) old) where
  pub stays_narrow : IsPlaneWithin (pos (2 ^ 18)) new
  stays_narrow y x ly lx = elim (known y x) as (λ _. IsNarrow (at new y x)) [
    | inl one ↦ let small = r.small y x one in record { low = small.low; high = small.high }
    | inr not ↦ subst IsNarrow (sym (r.stays y x not)) (all y x (omega (arith, same_height)) (omega (arith, same_width)))
  ]

earlier_or_not : (rect : Rect) (y x j i : ℕ) → IsEarlier rect y x j i ⊎ (IsEarlier rect y x j i → ⊥)
earlier_or_not rect y x j i = elim (in_rect_or_not rect j i) [
  | inr out ↦ inr (λ q. out q.0)
  | inl inside ↦ elim (cases_lt j y) [
    | inl above ↦ inl (inside, inl above)
    | inr from ↦ elim (cases_eq j y) [
      | inr ne ↦ inr (λ q. elim q.1 as (λ _. ⊥) [ inl above ↦ omega arith | inr beside ↦ ne beside.0 ])
      | inl e ↦ elim (cases_lt i x) [
        | inl left ↦ inl (inside, inr (e, left))
        | inr right ↦ inr (λ q. elim q.1 as (λ _. ⊥) [ inl above ↦ omega arith | inr beside ↦ omega (arith, beside.1) ])
      ]
    ]
  ]
]

module _ (rect : Rect) (old new : Raster ℤ) (same_width : new.w ≡ old.w) (same_height : height new ≡ height old) where
  pub narrow_after : (b : Bool) → (b ≡ true → Restores (λ _. 2 ^ 18) (IsInRect rect) (at old) (at new)) → (b ≡ false → Stops (λ _. 2 ^ 18) (λ z. IsNarrow z) rect (at old) (at new))
      → IsPlaneWithin (pos (2 ^ 18)) old → IsPlaneWithin (pos (2 ^ 18)) new
  narrow_after true restored stopped = stays_narrow (IsInRect rect) (in_rect_or_not rect) old new same_width same_height (restored refl)
  narrow_after false restored stopped =
      let stop = stopped refl in
      stays_narrow (IsEarlier rect stop.0 stop.1) (earlier_or_not rect stop.0 stop.1) old new same_width same_height stop.2.before

  pub is_stopped : Stops (λ _. 2 ^ 18) (λ z. IsNarrow z) rect (at old) (at new) → IsStopped rect old new
  is_stopped stop =
      let s = stop.2 in (
        stop.0,
        stop.1,
        record {
          here = s.here;
          same_width = same_width;
          same_height = same_height;
          restored = λ j i q before. s.before.restored j i (q, before);
          stays = λ j i not. s.before.stays j i (λ q. not q.0 q.1);
          passes = s.passes;
        },
      )
