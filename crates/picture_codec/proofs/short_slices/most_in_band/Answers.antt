use Rattle.std.proofs.Common.{◌≡◌, ap, inl, inr, ℕ, Bool, true, false, ◌+◌, ◌-◌, ◌*◌, ◌/◌, ◌%◌, ◌^◌, ◌≤◌, min, arith}
use Rattle.std.specs.Prelude.{◌==◌, if◌then◌else◌}
use Rattle.std.proofs.Math.Nat.{div-le_self, mul-le-mul_left, mul-le-mul_right}
use Rattle.std.proofs.lemmas.Nat.{mul-le}
use Rattle.std.proofs.lemmas.Bool.{cases_lt}
use Rattle.std.proofs.lemmas.Grind.{div_ceil_times}
use Rattle.planes.specs.Subbands.{subband_length}
use Rattle.slice_geometry.specs.declared.Size.{Size}
use Rattle.slice_geometry.specs.Geometry.{padded_length, band_length}
use Rattle.slice_geometry.proofs.Lengths.{padded_most}
use Rattle.picture_codec.proofs.short_slices.most_in_band.Goals as goal

-- a quotient that is rounded up is at most the number
ceil_low : (x n : ℕ) → 1 ≤ n → x / n + min 1 (x % n) ≤ x
ceil_low x n some = elim (cases_lt x (x / n + min 1 (x % n))) [
  | inl more ↦
      let above : (x + 1) * n ≤ (x / n + min 1 (x % n)) * n = mul-le-mul_right n (omega (arith, more)) in
      let all : x * 1 ≤ x * n = mul-le-mul_left x some in
      let parts : (x + 1) * n ≡ x * n + n = omega arith in
      absurd (omega (arith, above, all, parts, (div_ceil_times x n some).1))
  | inr le ↦ le
]

either_most : (t : Bool) (a b p : ℕ) → a ≤ p → b ≤ p → (if t then a else b) ≤ p
either_most true a b p first second = first
either_most false a b p first second = second

part_most : (depth level p : ℕ) → subband_length depth level p ≤ p
part_most depth level p = either_most (level == 0) (p / 2 ^ depth) (p / 2 ^ (depth - level + 1)) p (div-le_self p (2 ^ depth)) (div-le_self p (2 ^ (depth - level + 1)))

band_most : (depth level length : ℕ) → depth ≤ 4 → length ≤ 8192 → band_length depth level length ≤ 8192
band_most depth level length few short = omega (arith, part_most depth level (padded_length depth length), padded_most depth length few short)

-- the greatest part of a side of a band
share_most : (part side n : ℕ) → 1 ≤ n → side ≤ 8192 → part ≡ side / n + min 1 (side % n) → part ≤ 8192
share_most part side n some short is = omega (arith, ceil_low side n some, short, is)

pub returns : goal.returns
returns c =
    let s = c.args.layout.now in
    let allowed = c.slices_x.ensures.allowed in
    let w : c.band_size-band.result.w ≡ band_length s.depth c.args.level c.args.size.w = ap (λ (z : Size). z.w) c.band_size-band.ensures in
    let h : c.band_size-band.result.h ≡ band_length s.depth c.args.level c.args.size.h = ap (λ (z : Size). z.h) c.band_size-band.ensures in
    let across = share_most c.div_ceil.result c.band_size-band.result.w c.slices_x.result (omega (arith, c.slices_x.ensures.value, allowed.slices.some_across))
    (omega (arith, w, band_most s.depth c.args.level c.args.size.w allowed.depth c.requires.size.width)) c.div_ceil.ensures in
    let down = share_most c.div_ceil-2.result c.band_size-band.result.h c.slices_y.result (omega (arith, c.slices_y.ensures.value, allowed.slices.some_down))
    (omega (arith, h, band_most s.depth c.args.level c.args.size.h allowed.depth c.requires.size.height)) c.div_ceil-2.ensures in
    omega (arith, mul-le c.div_ceil.result c.div_ceil-2.result 8192 8192 across down)
