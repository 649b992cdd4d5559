-- Quotients against a number.
use Rattle.std.proofs.Common.{ℕ, ◌+◌, ◌*◌, ◌/◌, ◌<◌, ◌≤◌, arith}
use Rattle.std.proofs.Math.Nat.{div-lt_iff_lt-mul}
use Rattle.std.proofs.lemmas.Bool.{cases_lt}
use Rattle.std.proofs.Common.{inl, inr}

pub div-le_of_lt : (n k x : ℕ) → 1 ≤ k → n < (x + 1) * k → n / k ≤ x
div-le_of_lt n k x one lt =
    let below : n / k < x + 1 = (div-lt_iff_lt-mul {k = k} {x = n} {y = x + 1} (omega arith)).1 lt in
    omega arith

pub lt_of_div-le : (n k x : ℕ) → 1 ≤ k → n / k ≤ x → n < (x + 1) * k
lt_of_div-le n k x one le = (div-lt_iff_lt-mul {k = k} {x = n} {y = x + 1} (omega arith)).0 (omega arith)

pub le-div_of_le : (n k x : ℕ) → 1 ≤ k → x * k ≤ n → x ≤ n / k
le-div_of_le n k x one le = elim (cases_lt (n / k) x) [
  | inl below ↦ absurd (omega (arith, (div-lt_iff_lt-mul {k = k} {x = n} {y = x} (omega arith)).0 below))
  | inr above ↦ above
]

pub le_of_le-div : (n k x : ℕ) → 1 ≤ k → x ≤ n / k → x * k ≤ n
le_of_le-div n k x one le = elim (cases_lt n (x * k)) [
  | inl below ↦ absurd (omega (arith, (div-lt_iff_lt-mul {k = k} {x = n} {y = x} (omega arith)).1 below))
  | inr above ↦ above
]

-- a greater number has no smaller quotient
pub div-rises : (m n k : ℕ) → 1 ≤ k → m ≤ n → m / k ≤ n / k
div-rises m n k one le =
    let part : m / k * k ≤ m = le_of_le-div m k (m / k) one (omega arith) in
    le-div_of_le n k (m / k) one (omega arith)
