-- How great bands and their parts may be.
use Rattle.std.proofs.Common.{◌≡◌, ap, ◌∙◌, ℕ, zero, suc, Bool, false, ◌+◌, ◌-◌, ◌*◌, ◌/◌, ◌%◌, ◌^◌, ◌<◌, ◌≤◌, arith}
use Rattle.std.proofs.lemmas.Nat.{mul-le, div-add-mod', div-mul-add, pow_pos}
use Rattle.std.proofs.lemmas.Bool.Decides.{nat_tests}
use Rattle.std.specs.Prelude.{◌==◌, if◌then◌else◌}
use Rattle.std.proofs.Math.Nat.{mul-le-mul_left, div-le_of_le-mul}
use Rattle.planes.specs.Subbands.{subband_length}
use Rattle.slice_geometry.specs.declared.Size.{Size}
use Rattle.slice_geometry.specs.Slicing.{Slicing}
use Rattle.slice_geometry.specs.Geometry.{padded_length, band_length, band_size, slice_start}
use Rattle.slice_geometry.proofs.Lengths.{padded_most}
use Rattle.slice_geometry.proofs.Quotients.{div-rises}
use Rattle.slice_store.specs.Places.{IsCut}
use Rattle.slice_store.specs.Sides.{left, top}

whole_div : (p q : ℕ) → 0 < q → p / q ≤ p
whole_div p q some =
    let e : p / q * q + p % q ≡ p = div-add-mod' p q in
    let le : p / q * 1 ≤ p / q * q = mul-le (p / q) 1 (p / q) q (omega arith) (omega arith) in
    omega (arith, e, le)

pub part_most : (depth level p : ℕ) → subband_length depth level p ≤ p
part_most depth zero p = whole_div p (2 ^ depth) (pow_pos depth)
part_most depth (suc level) p =
    let above : (suc level == 0) ≡ false = grind (arith, nat_tests) in
    let e : subband_length depth (suc level) p ≡ p / 2 ^ (depth - suc level + 1) = ap (λ (t : Bool). if t then p / 2 ^ depth else p / 2 ^ (depth - suc level + 1)) above in
    rw e (whole_div p (2 ^ (depth - suc level + 1)) (pow_pos (depth - suc level + 1)))

pub band_most : (depth level length : ℕ) → depth ≤ 4 → length ≤ 8192 → band_length depth level length ≤ 8192
band_most depth level length few short = omega (arith, part_most depth level (padded_length depth length), padded_most depth length few short)

pub start_most : (length count i : ℕ) → 1 ≤ count → i ≤ count → slice_start length count i ≤ length
start_most length count i one le =
    let all : length * i ≤ length * count = mul-le-mul_left length le in
    div-le_of_le-mul count {m = length * i} {n = length} (omega (arith, all))

pub starts_rise : (length count i j : ℕ) → 1 ≤ count → i ≤ j → slice_start length count i ≤ slice_start length count j
starts_rise length count i j one le = div-rises (length * i) (length * j) count one (mul-le-mul_left length le)

whole_start : (length count : ℕ) → 1 ≤ count → slice_start length count count ≡ length
whole_start length count one =
    let e : length * count ≡ length * count + 0 = omega arith in
    ap (λ (n : ℕ). n / count) e ∙ div-mul-add length count 0 (omega (arith, one))

module _ (s : Slicing) (size : Size) (cut : IsCut s size) (level : ℕ) where
  pub w_most : (band_size s.depth level size).w ≤ 8192
  w_most = band_most s.depth level size.w cut.depth cut.size.width

  pub h_most : (band_size s.depth level size).h ≤ 8192
  h_most = band_most s.depth level size.h cut.depth cut.size.height

  pub left_most : (sx : ℕ) → sx ≤ s.slices_x → left s size level sx ≤ 8192
  left_most sx le = omega (arith, start_most (band_size s.depth level size).w s.slices_x sx cut.slices.some_across le, w_most)

  pub top_most : (sy : ℕ) → sy ≤ s.slices_y → top s size level sy ≤ 8192
  top_most sy le = omega (arith, start_most (band_size s.depth level size).h s.slices_y sy cut.slices.some_down le, h_most)

  pub rows_rise : (sy : ℕ) → top s size level sy ≤ top s size level (sy + 1)
  rows_rise sy = starts_rise (band_size s.depth level size).h s.slices_y sy (sy + 1) cut.slices.some_down (omega arith)

  pub columns_rise : (sx : ℕ) → left s size level sx ≤ left s size level (sx + 1)
  columns_rise sx = starts_rise (band_size s.depth level size).w s.slices_x sx (sx + 1) cut.slices.some_across (omega arith)

  -- all columns, and all rows
  pub all_left : left s size level s.slices_x ≡ (band_size s.depth level size).w
  all_left = whole_start (band_size s.depth level size).w s.slices_x cut.slices.some_across

  pub all_top : top s size level s.slices_y ≡ (band_size s.depth level size).h
  all_top = whole_start (band_size s.depth level size).h s.slices_y cut.slices.some_down
