-- Numbers of a lower level, on the scale of the samples.
use Rattle.std.specs.Prelude.{ℕ, zero, suc, ◌^◌, ℤ, pos, ◌+ℤ◌}
use Rattle.std.specs.Int.{int_shr}

-- A number over 2 ^ shift, rounded to the nearest whole one, and upward where two are as near.
abbrev pub rounded : ℕ → ℤ → ℤ
rounded zero v = v
rounded (suc s) v = int_shr (v +ℤ pos (2 ^ s)) (suc s)
