-- How wide a luma length can be.
use Rattle.std.proofs.Common.{ℕ, zero, suc, ◌+◌, ◌-◌, ◌*◌, ◌/◌, ◌^◌, ◌<◌, ◌≤◌, Bool, true, false, arith, cond}
use Rattle.std.specs.Prelude.{nat_le}
use Rattle.std.proofs.Math.Nat.{pow-suc}
use Rattle.bit_codes.specs.Codes.{digits_of, intlog2}
use Rattle.slice_geometry.specs.Slicing.{length_bits}

either_least : (b : Bool) (x y j : ℕ) → x ≤ j → y ≤ j → cond b x y ≤ j
either_least true x y j one two = one
either_least false x y j one two = two

digits-most : (k n j : ℕ) → n < 2 ^ j → digits_of k n ≤ j
digits-most zero n j lt = omega arith
digits-most (suc k) zero j lt = omega arith
digits-most (suc k) (suc n) zero lt = absurd (omega arith)
digits-most (suc k) (suc n) (suc j) lt =
    let half : suc n / 2 < 2 ^ j = omega (arith, lt, pow-suc 2 j) in
    either_least (nat_le (suc n) 0) 0 (suc (digits_of k (suc n / 2))) (suc j) (omega arith) (omega (arith, digits-most k (suc n / 2) j half))

digits-least : (k n : ℕ) → digits_of k n ≤ n
digits-least zero n = omega arith
digits-least (suc k) zero = omega arith
digits-least (suc k) (suc n) =
    either_least (nat_le (suc n) 0) 0 (suc (digits_of k (suc n / 2))) (suc n) (omega arith) (omega (arith, digits-least k (suc n / 2)))

pub length_bits-most : (bytes : ℕ) → bytes ≤ 2 ^ 28 → length_bits bytes ≤ 31
unfolding intlog2
length_bits-most bytes le = digits-most 64 (8 * bytes - 7 - 1) 31 (omega arith)

pub length_bits-fit : (bytes : ℕ) → 1 ≤ bytes → length_bits bytes + 7 ≤ 8 * bytes
unfolding intlog2
length_bits-fit bytes one =
    let least : digits_of 64 (8 * bytes - 7 - 1) ≤ 8 * bytes - 7 - 1 = digits-least 64 (8 * bytes - 7 - 1) in
    omega (arith, least)
