-- The slice that holds a place.
use Rattle.std.proofs.Common.{◌≡◌, ℕ, ◌+◌, ◌-◌, ◌*◌, ◌<◌, ◌≤◌, arith, sym}
use Rattle.std.proofs.Math.Nat.{div-eq_of_lt-le, mul-div-le, lt-mul-div-succ, mul-le-mul_right, div-lt_iff_lt-mul}
use Rattle.planes.specs.Rect.{IsInRect}
use Rattle.slice_geometry.specs.declared.Size.{Size}
use Rattle.slice_geometry.specs.Slicing.{Slicing, AreSlicesAllowed}
use Rattle.slice_geometry.specs.Geometry.{slice_start, slice_end, holding, slice_rect}
use Rattle.slice_geometry.specs.SliceLaws.{IsHeld}
use Rattle.slice_geometry.proofs.Quotients.{div-le_of_lt, lt_of_div-le, le-div_of_le, le_of_le-div}

-- the slice that holds a place is no other
pub holding_alone : (length count x i : ℕ) → 1 ≤ count → slice_start length count i ≤ x → x < slice_end length count i → i ≡ holding count length x
holding_alone length count x i one from to =
    let low : length * i < (x + 1) * count = lt_of_div-le (length * i) count x one from in
    let high : (x + 1) * count ≤ length * (i + 1) = le_of_le-div (length * (i + 1)) count (x + 1) one (omega arith) in
    sym (div-eq_of_lt-le {k = i} length {m = (x + 1) * count - 1} (omega arith) (omega arith))

pub holding_below : (length count x : ℕ) → 1 ≤ count → x < length → holding count length x < count
holding_below length count x one lt =
    let all : (x + 1) * count ≤ length * count = mul-le-mul_right count (omega arith) in
    (div-lt_iff_lt-mul {k = length} {x = (x + 1) * count - 1} {y = count} (omega arith)).1 (omega arith)

pub holding_from : (length count x : ℕ) → 1 ≤ count → x < length → slice_start length count (holding count length x) ≤ x
holding_from length count x one lt =
    let part = mul-div-le ((x + 1) * count - 1) length in
    div-le_of_lt (length * holding count length x) count x one (omega (arith, part))

pub holding_to : (length count x : ℕ) → 1 ≤ count → x < length → x < slice_end length count (holding count length x)
holding_to length count x one lt =
    let past = lt-mul-div-succ ((x + 1) * count - 1) {b = length} (omega arith) in
    let reached : x + 1 ≤ slice_end length count (holding count length x) = le-div_of_le (length * (holding count length x + 1)) count (x + 1) one (omega (arith, past)) in
    omega (arith, reached)

pub held : (s : Slicing) (band : Size) (y x : ℕ) → AreSlicesAllowed s → x < band.w → y < band.h → IsHeld s band y x
held s band y x allowed across down = record {
  across = holding_below band.w s.slices_x x allowed.some_across across;
  down = holding_below band.h s.slices_y y allowed.some_down down;
  inside = record {
    left = holding_from band.w s.slices_x x allowed.some_across across;
    right = holding_to band.w s.slices_x x allowed.some_across across;
    top = holding_from band.h s.slices_y y allowed.some_down down;
    bottom = holding_to band.h s.slices_y y allowed.some_down down;
  };
}

pub alone : (s : Slicing) (band : Size) (y x sx sy : ℕ) → AreSlicesAllowed s → IsInRect (slice_rect s band sx sy) y x → (sx ≡ holding s.slices_x band.w x) × (sy ≡ holding s.slices_y band.h y)
alone s band y x sx sy allowed inside = (
  holding_alone band.w s.slices_x x sx allowed.some_across inside.left inside.right,
  holding_alone band.h s.slices_y y sy allowed.some_down inside.top inside.bottom,
)
