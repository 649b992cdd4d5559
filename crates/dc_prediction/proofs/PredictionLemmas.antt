-- A prediction by the place's row and column, what it depends on, and how large it can be.
use Rattle.std.proofs.Common.{to_z, of_z, w64, ◌^◌, ◌≡◌, refl, ℕ, zero, suc, ◌-◌, ◌<◌, ◌≤◌, arith, ℤ, pos, ◌+ℤ◌}
use Rattle.std.proofs.lemmas.Int.{ints}
use native.Mathlib.Numerals.{unary_clauses}
use Rattle.planes.specs.Numbers.{Within}
use Rattle.planes.proofs.Floors.{IsFloor, floor_third}
use Rattle.planes.specs.Raster.{Grid}
use Rattle.dc_prediction.specs.Prediction.{mean, prediction, AllLookedAt}

pub prediction_corner : (g : Grid) → prediction g 0 0 ≡ pos 0
unfolding prediction
prediction_corner g = refl

pub prediction_first_row : (g : Grid) (x : ℕ) → 0 < x → prediction g 0 x ≡ g 0 (x - 1)
unfolding prediction
prediction_first_row g zero h = absurd (omega arith)
prediction_first_row g (suc x) h = simp unary_clauses refl

pub prediction_first_column : (g : Grid) (y : ℕ) → 0 < y → prediction g y 0 ≡ g (y - 1) 0
unfolding prediction
prediction_first_column g zero h = absurd (omega arith)
prediction_first_column g (suc y) h = simp unary_clauses refl

pub prediction_inside : (g : Grid) (y x : ℕ) → 0 < y → 0 < x → prediction g y x ≡ mean (g y (x - 1)) (g (y - 1) (x - 1)) (g (y - 1) x)
unfolding prediction
prediction_inside g zero x hy hx = absurd (omega arith)
prediction_inside g (suc y) zero hy hx = absurd (omega arith)
prediction_inside g (suc y) (suc x) hy hx = simp unary_clauses refl

-- equal where it looks, equal
pub prediction_same : (f g : Grid) (y x : ℕ) → AllLookedAt (λ j i. f j i ≡ g j i) y x → prediction f y x ≡ prediction g y x
unfolding prediction
prediction_same f g zero zero s = refl
prediction_same f g zero (suc x) s = simp unary_clauses at (s.left (omega arith))
prediction_same f g (suc y) zero s = simp unary_clauses at (s.above (omega arith))
prediction_same f g (suc y) (suc x) s =
    let left : f (suc y) x ≡ g (suc y) x = simp unary_clauses at (s.left (omega arith)) in
    let above : f y (suc x) ≡ g y (suc x) = simp unary_clauses at (s.above (omega arith)) in
    let corner : f y x ≡ g y x = simp unary_clauses at (s.corner (omega arith) (omega arith)) in
    rw (left, above, corner) refl

-- the mean of three numbers is no greater than they are
pub mean_small : (m : ℕ) (a b c : ℤ) → Within m a → Within m b → Within m c → Within m (mean a b c)
mean_small m a b c pa pb pc =
    let f : IsFloor (a +ℤ b +ℤ c +ℤ pos 1) 3 (mean a b c) = floor_third (a +ℤ b +ℤ c +ℤ pos 1) in
    record { low = omega (arith, ints); high = omega (arith, ints) }

-- and so is a prediction, of what it looks at
pub prediction_within : (m : ℕ) (g : Grid) (y x : ℕ) → AllLookedAt (λ j i. Within m (g j i)) y x → Within m (prediction g y x)
unfolding prediction
prediction_within m g zero zero s = record { low = omega (arith, ints); high = omega (arith, ints) }
prediction_within m g zero (suc x) s = simp unary_clauses at (s.left (omega arith))
prediction_within m g (suc y) zero s = simp unary_clauses at (s.above (omega arith))
prediction_within m g (suc y) (suc x) s =
    let left : Within m (g (suc y) x) = simp unary_clauses at (s.left (omega arith)) in
    let above : Within m (g y (suc x)) = simp unary_clauses at (s.above (omega arith)) in
    let corner : Within m (g y x) = simp unary_clauses at (s.corner (omega arith) (omega arith)) in
    mean_small m (g (suc y) x) (g y x) (g y (suc x)) left corner above

-- what is kept in 64 bits is what it was
pub fits : (m : ℕ) (v : ℤ) → m ≤ 2 ^ 50 → Within m v → to_z w64 (of_z w64 v) ≡ v
fits m v le p = omega (arith, ints)
