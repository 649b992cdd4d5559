-- Signals of 1 to 16 bits.
use Rattle.std.proofs.Common.{◌≡◌, ℕ, zero, suc, ◌-◌, ◌*◌, ◌^◌, ◌≤◌, arith}
use Rattle.std.proofs.Math.Nat.{pow-le-pow_right}

pub half_some : (depth : ℕ) → 1 ≤ 2 ^ (depth - 1)
half_some depth = pow-le-pow_right {n = 2} (omega arith) {i = 0} {j = depth - 1} (omega arith)

pub half_most : (depth : ℕ) → depth ≤ 16 → 2 ^ (depth - 1) ≤ 32768
half_most depth le = pow-le-pow_right {n = 2} (omega arith) {i = depth - 1} {j = 15} (omega arith)

pub doubled : (depth : ℕ) → 1 ≤ depth → 2 ^ depth ≡ 2 * 2 ^ (depth - 1)
doubled zero le = absurd (omega arith)
doubled (suc n) le = grind arith
