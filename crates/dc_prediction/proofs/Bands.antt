-- The one band that is restored.
use Rattle.std.proofs.Common.{◌≡◌, ◌∙◌, ap, refl, ℕ, zero, suc, ◌≤◌, arith, ℤ, ◌+ℤ◌}
use Rattle.planes.specs.Raster.{Grid}
use Rattle.dc_prediction.specs.Prediction.{prediction, restored, first_row, row_below, IsRestored}

pub is_restored : (r : Grid) → IsRestored r (restored r)
unfolding prediction restored
is_restored r zero zero = refl
is_restored r zero (suc x) = refl
is_restored r (suc y) zero = refl
is_restored r (suc y) (suc x) = refl

first_row_again : (r g : Grid) → IsRestored r g → (x : ℕ) → g 0 x ≡ first_row (r 0) x
unfolding prediction
first_row_again r g is zero = is 0 0
first_row_again r g is (suc x) = is 0 (suc x) ∙ ap (λ v. r 0 (suc x) +ℤ v) (first_row_again r g is x)

row_again : (r g : Grid) (above : ℕ → ℤ) (y : ℕ) → IsRestored r g → ((x : ℕ) → g y x ≡ above x) → (x : ℕ) → g (suc y) x ≡ row_below above (r (suc y)) x
unfolding prediction
row_again r g above y is same zero = is (suc y) 0 ∙ ap (λ v. r (suc y) 0 +ℤ v) (same 0)
row_again r g above y is same (suc x) =
    let left = row_again r g above y is same x in
    is (suc y) (suc x) ∙ rw (left, same x, same (suc x)) refl

pub restored_again : (r g : Grid) → IsRestored r g → (y x : ℕ) → g y x ≡ restored r y x
unfolding restored
restored_again r g is zero x = first_row_again r g is x
restored_again r g is (suc y) x = row_again r g (restored r y) y is (restored_again r g is y) x

first_row_same : (r s : ℕ → ℤ) (x : ℕ) → ((i : ℕ) → i ≤ x → r i ≡ s i) → first_row r x ≡ first_row s x
first_row_same r s zero same = rw (same 0 (omega arith)) refl
first_row_same r s (suc x) same = rw (same (suc x) (omega arith), first_row_same r s x (λ i le. same i (omega arith))) refl

row_below_same : (above above' r s : ℕ → ℤ) (x : ℕ) → ((i : ℕ) → i ≤ x → above i ≡ above' i) → ((i : ℕ) → i ≤ x → r i ≡ s i) → row_below above r x ≡ row_below above' s x
row_below_same above above' r s zero up same = rw (same 0 (omega arith), up 0 (omega arith)) refl
row_below_same above above' r s (suc x) up same =
    rw (same (suc x) (omega arith), row_below_same above above' r s x (λ i le. up i (omega arith)) (λ i le. same i (omega arith)), up x (omega arith), up (suc x) (omega arith)) refl

pub restored_same : (r s : Grid) (y x : ℕ) → ((j i : ℕ) → j ≤ y → i ≤ x → r j i ≡ s j i) → restored r y x ≡ restored s y x
unfolding restored
restored_same r s zero x same = first_row_same (r 0) (s 0) x (λ i le. same 0 i (omega arith) le)
restored_same r s (suc y) x same =
    row_below_same (restored r y) (restored s y) (r (suc y)) (s (suc y)) x
    (λ i le. restored_same r s y i (λ j k lj lk. same j k (omega arith) (omega arith)))
    (λ i le. same (suc y) i (omega arith) le)
