use Rattle.std.proofs.Common.{◌≡◌, ◌∙◌, ℕ, ◌-◌, ◌*◌, ◌%◌, ◌^◌, ◌<◌, ◌≤◌, leb, sym, ap, arith}
use Rattle.std.specs.Prelude.{nat_le, ◌&&◌}
use Rattle.std.proofs.Math.Nat.{pow-le-pow_right}
use Rattle.std.proofs.lemmas.Bool.{lt-leb}
use Rattle.slice_geometry.specs.Slicing.{length_bits}
use Rattle.slice_geometry.proofs.LengthBits.{length_bits-most, length_bits-fit}
use Rattle.slice_encoder.proofs.SliceBits.{two_least}
use Rattle.slice_encoder.proofs.fitting.do_fit.Goals as goal

pub overflow_shl-m : goal.overflow_shl-m
overflow_shl-m c = omega (arith, c.length_bits-m.ensures, length_bits-most c.args.bytes c.requires.most)

-- what is shifted is the power
power_is : (r bytes : ℕ) → r ≡ length_bits bytes → bytes ≤ 2 ^ 28 → 1 * 2 ^ r % 2 ^ 64 ≡ 2 ^ length_bits bytes
power_is r bytes is most =
    let small : 2 ^ length_bits bytes ≤ 2 ^ 31 = pow-le-pow_right {n = 2} (omega arith) (length_bits-most bytes most) in
    omega (arith, small, ap (λ (n : ℕ). 2 ^ n) is)

pub overflow_sub-m : goal.overflow_sub-m
overflow_sub-m c = omega (arith, power_is c.length_bits-m.result c.args.bytes c.length_bits-m.ensures c.requires.most, two_least (length_bits c.args.bytes))

pub overflow_sub-result-then-luma-m : goal.overflow_sub-result-then-luma-m
overflow_sub-result-then-luma-m c =
    omega (arith, c.from.ensures, c.from-then-luma-m.ensures, c.length_bits-m.ensures, length_bits-fit c.args.bytes c.requires.some)

too_much : (luma limit limit' : ℕ) (rest : _) → limit ≡ limit' → limit < luma → leb luma limit ≡ (nat_le luma limit' && rest)
too_much luma limit limit' rest e lt = lt-leb luma limit lt ∙ sym (ap (λ b. b && rest) (lt-leb luma limit' (omega arith)))

pub returns-else-luma-m : goal.returns-else-luma-m
returns-else-luma-m c =
    let power = power_is c.length_bits-m.result c.args.bytes c.length_bits-m.ensures c.requires.most in
    too_much c.args.luma (1 * 2 ^ c.length_bits-m.result % 2 ^ 64 - 1) (2 ^ length_bits c.args.bytes - 1) _ (omega (arith, power)) (omega (arith, c.if-luma-m.false))
