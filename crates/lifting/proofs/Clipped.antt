-- A number that was clipped and is counted from the lowest one, at any width.
use Rattle.std.proofs.Common.{◌≡◌, sym, ap, subst, ◌∙◌, ℕ, ◌+◌, ◌^◌, arith, ◌≤◌, ℤ, pos, negsuc, neg_ℤ, ◌+ℤ◌, ◌-ℤ◌, ◌≤ℤ◌, ◌<ℤ◌}
use Rattle.std.proofs.lemmas.Int.{ints, to_z-of_z, int_max_is, int_min_is}
use Rattle.std.specs.Int.{int_min, int_max}
use Rattle.std.specs.Int.Signed.{non_neg, pos-nat_abs, yes_non_neg}
use Rattle.std.proofs.Math.IntN.{nat_abs}
use Rattle.std.proofs.Math.Dec.{T}
use mir.Syntax.{Width, w16}
use mir.Val.{SFits, Fits, to_z, of_z, hbits}
use Rattle.lifting.specs.Clipping.{clipped_up}

-- a number that was put into its bits and read back
abbrev again : Width → ℤ → ℤ
again w z = to_z w (of_z w z)

record IsBetween (half r : ℤ) : Type 0 where
  pub low : neg_ℤ half ≤ℤ r
  pub high : r ≤ℤ (half -ℤ pos 1)

clip_between : (half v : ℤ) → pos 1 ≤ℤ half → IsBetween half (int_max (neg_ℤ half) (int_min (half -ℤ pos 1) v))
clip_between half v some = record { low = omega (arith, ints, int_max_is, int_min_is); high = omega (arith, ints, int_max_is, int_min_is) }

short_fits : (z : ℤ) → pos 0 ≤ℤ z → z ≤ℤ pos 65535 → Fits w16 (nat_abs z)
short_fits (pos n) low high = record { fits = omega (arith, ints) }
short_fits (negsuc n) low high = absurd (omega (arith, ints))

from_zero : (w : Width) (z : ℤ) → pos 0 ≤ℤ z → z <ℤ pos (2 ^ hbits w) → SFits w z
from_zero w (pos a) low high = record { sfits = omega (arith, ints, high) }
from_zero w (negsuc a) low high = absurd (omega (arith, ints, low))

-- half of a range is at most `top`
module _ (w : Width) (top : ℕ) (few : top ≤ 32768) (enough : top + top ≤ 2 ^ hbits w) where
  up_fits : (half r : ℤ) → half ≤ℤ pos top → pos 1 ≤ℤ half → IsBetween half r → SFits w (r +ℤ half)
  up_fits half r most some between = from_zero w (r +ℤ half) (omega (arith, ints, between.low)) (omega (arith, ints, most, enough, between.high))

  module _ (half v r : ℤ) (some : pos 1 ≤ℤ half) (most : half ≤ℤ pos top) (fh : SFits w half) (fv : SFits w v) (fr : SFits w r)
      (is : r ≡ int_max (neg_ℤ (again w half)) (int_min (again w half -ℤ pos 1) (again w v))) where
    clip_is : r ≡ int_max (neg_ℤ half) (int_min (half -ℤ pos 1) v)
    clip_is =
        is ∙ ap (λ (h : ℤ). int_max (neg_ℤ h) (int_min (h -ℤ pos 1) (again w v))) (to_z-of_z w half fh)
        ∙ ap (λ (z : ℤ). int_max (neg_ℤ half) (int_min (half -ℤ pos 1) z)) (to_z-of_z w v fv)

    between : IsBetween half r
    between = subst (IsBetween half) (sym clip_is) (clip_between half v some)

    least : pos 0 ≤ℤ (r +ℤ half)
    least = let b = between in omega (arith, ints, b.low)

    greatest : (r +ℤ half) ≤ℤ pos 65535
    greatest = let b = between in omega (arith, ints, b.high, most, few)

    parts : again w r +ℤ again w half ≡ r +ℤ half
    parts = ap (λ (z : ℤ). z +ℤ again w half) (to_z-of_z w r fr) ∙ ap (λ (z : ℤ). r +ℤ z) (to_z-of_z w half fh)

    pub sum_fits : SFits w (again w r +ℤ again w half)
    sum_fits = subst (SFits w) (sym parts) (up_fits half r most some between)

    whole : again w (again w r +ℤ again w half) ≡ r +ℤ half
    whole = to_z-of_z w (again w r +ℤ again w half) sum_fits ∙ parts

    pub cast_fits : T (non_neg (again w (again w r +ℤ again w half))) × Fits w16 (nat_abs (again w (again w r +ℤ again w half)))
    cast_fits = subst (λ (z : ℤ). T (non_neg z) × Fits w16 (nat_abs z)) (sym whole) (yes_non_neg least, short_fits (r +ℤ half) least greatest)

    pub counted : pos (nat_abs (again w (again w r +ℤ again w half))) ≡ clipped_up half v
    counted = ap (λ (z : ℤ). pos (nat_abs z)) whole ∙ pos-nat_abs (r +ℤ half) (yes_non_neg least) ∙ ap (λ (z : ℤ). z +ℤ half) clip_is
