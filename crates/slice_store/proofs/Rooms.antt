-- Each row of slices has room in its strip.
use Rattle.std.proofs.Common.{◌≡◌, ap, ℕ, zero, suc, ◌+◌, ◌-◌, ◌*◌, ◌/◌, ◌%◌, ◌^◌, ◌<◌, ◌≤◌, arith, mod-lt}
use Rattle.std.proofs.lemmas.Nat.{mul-le, div-add-mod'}
use Rattle.slice_geometry.specs.declared.Size.{Size}
use Rattle.slice_geometry.specs.Slicing.{Slicing}
use Rattle.slice_geometry.specs.Shape.{IsSize}
use Rattle.slice_geometry.specs.Geometry.{band_size}
use Rattle.slice_geometry.proofs.Quotients.{div-le_of_lt}
use Rattle.slice_store.specs.Sides.{left, top, tall}
use Rattle.slice_store.specs.Room.{part_room, strip_room, row_numbers}
use Rattle.slice_store.proofs.Sizes.{band_most, start_most}
use Rattle.slice_store.proofs.Sums.{in_front, all_in_front}

-- a sum's quotient, rounded down, against one that is rounded up
pub sum_div : (a b n : ℕ) → 1 ≤ n → (a + b) / n ≤ a / n + (b + n - 1) / n
sum_div a b n some =
    let c : ℕ = (b + n - 1) / n in
    let ea : a / n * n + a % n ≡ a = div-add-mod' a n in
    let ec : c * n + (b + n - 1) % n ≡ b + n - 1 = div-add-mod' (b + n - 1) n in
    let la : a % n < n = mod-lt a (omega (arith, some)) in
    let lc : (b + n - 1) % n < n = mod-lt (b + n - 1) (omega (arith, some)) in
    let split : (p q r : ℕ) → (p + q + 1) * r ≡ p * r + q * r + r = λ p q r. omega arith in
    div-le_of_lt (a + b) n (a / n + c) some (omega (arith, split (a / n) c n, ea, ec, la, lc, some))

pub up_most : (b n : ℕ) → 1 ≤ n → (b + n - 1) / n ≤ b
up_most b n some =
    let part : b * n + n ≡ (b + 1) * n = omega arith in
    let one : b * 1 ≤ b * n = mul-le b 1 b n (omega arith) some in
    div-le_of_lt (b + n - 1) n b some (omega (arith, part, one, some))

pub room_most : (s : Slicing) (size : Size) (level : ℕ) → s.depth ≤ 4 → IsSize size.w size.h → 1 ≤ s.slices_y → part_room s size level ≤ 2 ^ 26
room_most s size level few is some =
    let w = band_most s.depth level size.w few is.width in
    let h = band_most s.depth level size.h few is.height in
    let b : Size = band_size s.depth level size in
    let all : b.w * ((b.h + s.slices_y - 1) / s.slices_y) ≤ 8192 * 8192 = mul-le b.w ((b.h + s.slices_y - 1) / s.slices_y) 8192 8192 w (omega (arith, up_most b.h s.slices_y some, h)) in
    omega (arith, all)

pub strip_most : (s : Slicing) (size : Size) (level : ℕ) → s.depth ≤ 4 → IsSize size.w size.h → 1 ≤ s.slices_y → strip_room s size level ≤ (1 + 3 * level) * 2 ^ 26
strip_most s size zero few is some = omega (arith, room_most s size 0 few is some)
strip_most s size (suc level) few is some = omega (arith, strip_most s size level few is some, room_most s size (suc level) few is some)

module _ (s : Slicing) (size : Size) (across : 1 ≤ s.slices_x) (down : 1 ≤ s.slices_y) where
  tall_most : (level sy : ℕ) → tall s size level sy ≤ ((band_size s.depth level size).h + s.slices_y - 1) / s.slices_y
  tall_most level sy =
      let h : ℕ = (band_size s.depth level size).h in
      let n : ℕ = s.slices_y in
      let next : h * (sy + 1) ≡ h * sy + h = omega arith in
      let e : top s size level (sy + 1) ≡ (h * sy + h) / n = ap (λ (m : ℕ). m / n) next in
      omega (arith, sum_div (h * sy) h n down, e)

  whole_left : (level : ℕ) → left s size level s.slices_x ≤ (band_size s.depth level size).w
  whole_left level = start_most (band_size s.depth level size).w s.slices_x s.slices_x across (omega arith)

  part_fits : (level sy : ℕ) → left s size level s.slices_x * tall s size level sy ≤ part_room s size level
  part_fits level sy = mul-le (left s size level s.slices_x) (tall s size level sy) (band_size s.depth level size).w (((band_size s.depth level size).h + s.slices_y - 1) / s.slices_y) (whole_left level) (tall_most level sy)

  front_fits : (level sy : ℕ) → in_front s size level s.slices_x sy ≤ strip_room s size level
  front_fits zero sy = part_fits 0 sy
  front_fits (suc level) sy = omega (arith, front_fits level sy, part_fits (suc level) sy)

  pub row_fits : (sy : ℕ) → row_numbers s size sy ≤ strip_room s size s.depth
  row_fits sy = omega (arith, front_fits s.depth sy, all_in_front s size s.slices_x sy across)
