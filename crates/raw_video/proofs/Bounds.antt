-- What samples of 1 to 16 bits are below.
use Rattle.std.proofs.Common.{ℕ, ◌^◌, ◌≤◌, arith}
use Rattle.std.proofs.Math.Nat.{pow-le-pow_right}

pub bound_small : (depth : ℕ) → depth ≤ 16 → 2 ^ depth ≤ 65536
bound_small depth le = pow-le-pow_right {n = 2} (omega arith) {i = depth} {j = 16} le
