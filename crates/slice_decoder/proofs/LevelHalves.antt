-- The rectangles of a slice in the bands of a level, from those of the next one.
use Rattle.std.proofs.Common.{◌≡◌, ℕ, false, ◌+◌, ◌-◌, ◌*◌, ◌/◌, ◌%◌, ◌^◌, ◌<◌, ◌≤◌, refl, sym, ap, ◌∙◌, arith}
use Rattle.std.specs.Prelude.{Bool, ◌==◌, if◌then◌else◌}
use Rattle.std.proofs.Math.Nat.{div-div-eq-div-mul, mul-div_cancel_left, mul_assoc}
use Rattle.std.proofs.lemmas.Nat.{div-add-mod', pow-add, pow_pos}
use Rattle.std.proofs.lemmas.Bool.Decides.{nat_tests}
use Rattle.planes.specs.declared.Rect.{Rect}
use Rattle.planes.specs.Subbands.{subband_length}
use Rattle.slice_geometry.specs.declared.Size.{Size}
use Rattle.slice_geometry.specs.Slicing.{Slicing}
use Rattle.slice_geometry.specs.Geometry.{padded_length, band_length, slice_start, slice_rect}
use Rattle.slice_geometry.specs.SliceOrder.{level_rect}
use Rattle.slice_geometry.proofs.Lengths.{padded_whole}

abbrev pub halve : Rect → Rect
halve r = record { x0 = r.x0 / 2; x1 = r.x1 / 2; y0 = r.y0 / 2; y1 = r.y1 / 2 }

-- a multiple of a power, over a lower one
over_power : (d e k m : ℕ) → d ≡ e + k → 2 ^ d * m / 2 ^ e ≡ 2 ^ k * m
over_power d e k m is =
    let power : 2 ^ d ≡ 2 ^ e * 2 ^ k = ap (λ (n : ℕ). 2 ^ n) is ∙ pow-add 2 e k in
    ap (λ (n : ℕ). n * m / 2 ^ e) power ∙ ap (λ (n : ℕ). n / 2 ^ e) (mul_assoc (2 ^ e) (2 ^ k) m) ∙ mul-div_cancel_left (2 ^ k * m) (pow_pos e)

-- a multiple of 2 ^ depth over the power of a level
length_is : (depth level p : ℕ) → p % 2 ^ depth ≡ 0 → 1 ≤ level → level ≤ depth → subband_length depth level p ≡ 2 ^ (level - 1) * (p / 2 ^ depth)
length_is depth level p whole some le =
    let above : (level == 0) ≡ false = grind (arith, nat_tests) in
    let e : p / 2 ^ depth * 2 ^ depth + p % 2 ^ depth ≡ p = div-add-mod' p (2 ^ depth) in
    let is : p ≡ 2 ^ depth * (p / 2 ^ depth) = omega (arith, e, whole) in
    ap (λ (u : Bool). if u then p / 2 ^ depth else (p / 2 ^ (depth - level + 1))) above
    ∙ ap (λ (v : ℕ). v / 2 ^ (depth - level + 1)) is
    ∙ over_power depth (depth - level + 1) (level - 1) (p / 2 ^ depth) (omega arith)

length_doubles : (depth level p : ℕ) → p % 2 ^ depth ≡ 0 → 1 ≤ level → level < depth → subband_length depth (level + 1) p ≡ 2 * subband_length depth level p
length_doubles depth level p whole some lt =
    let m : ℕ = p / 2 ^ depth in
    let next : level + 1 - 1 ≡ 1 + (level - 1) = omega arith in
    length_is depth (level + 1) p whole (omega arith) (omega arith)
    ∙ ap (λ (n : ℕ). 2 ^ n * m) next
    ∙ ap (λ (n : ℕ). n * m) (pow-add 2 1 (level - 1))
    ∙ mul_assoc 2 (2 ^ (level - 1)) m
    ∙ ap (λ (n : ℕ). 2 * n) (sym (length_is depth level p whole some (omega arith)))

band_doubles : (depth level length : ℕ) → 1 ≤ level → level < depth → band_length depth (level + 1) length ≡ 2 * band_length depth level length
band_doubles depth level length some lt = length_doubles depth level (padded_length depth length) (padded_whole depth length) some lt

start_halves : (w wide n i : ℕ) → wide ≡ 2 * w → slice_start w n i ≡ slice_start wide n i / 2
start_halves w wide n i is =
    let twice : wide * i ≡ 2 * (w * i) = ap (λ (v : ℕ). v * i) is ∙ mul_assoc 2 w i in
    let turn : n * 2 ≡ 2 * n = omega arith in
    sym (ap (λ (v : ℕ). v / n / 2) twice
    ∙ div-div-eq-div-mul (2 * (w * i)) n 2
    ∙ ap (λ (v : ℕ). 2 * (w * i) / v) turn
    ∙ sym (div-div-eq-div-mul (2 * (w * i)) 2 n)
    ∙ ap (λ (v : ℕ). v / n) (mul-div_cancel_left (w * i) (omega arith)))

pub rect_halves : (s : Slicing) (size : Size) (sx sy level : ℕ) → 1 ≤ level → level < s.depth
    → level_rect s size sx sy level ≡ halve (level_rect s size sx sy (level + 1))
rect_halves s size sx sy level some lt =
    let w = band_doubles s.depth level size.w some lt in
    let h = band_doubles s.depth level size.h some lt in
    rw (start_halves _ _ s.slices_x sx w, start_halves _ _ s.slices_x (sx + 1) w, start_halves _ _ s.slices_y sy h, start_halves _ _ s.slices_y (sy + 1) h) refl

pub rect_lowest : (s : Slicing) (size : Size) (sx sy : ℕ) → 1 ≤ s.depth → level_rect s size sx sy 1 ≡ level_rect s size sx sy 0
rect_lowest s size sx sy some =
    let same : s.depth - 1 + 1 ≡ s.depth = omega arith in
    ap (λ (n : ℕ). slice_rect s (record { w = padded_length s.depth size.w / 2 ^ n; h = padded_length s.depth size.h / 2 ^ n }) sx sy) same
