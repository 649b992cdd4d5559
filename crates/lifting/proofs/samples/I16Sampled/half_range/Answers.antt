use Rattle.std.proofs.Common.{◌≡◌, ℕ, ◌-◌, ◌*◌, ◌%◌, ◌^◌, ◌≤◌, arith, pos, to_z}
use Rattle.std.proofs.lemmas.Int.{ints}
use Rattle.std.proofs.Math.Nat.{pow-le-pow_right}
use mir.Syntax.{w16}
use Rattle.lifting.proofs.samples.I16Sampled.half_range.Goals as goal

in_bits : (n : ℕ) → n ≤ 16384 → to_z w16 (1 * n % 65536) ≡ pos n
in_bits n le = omega (arith, ints, le)

pub returns : goal.returns
returns c = in_bits (2 ^ (c.args.depth - 1)) (pow-le-pow_right {n = 2} (omega arith) {i = c.args.depth - 1} {j = 14} (omega (arith, c.requires.most)))
