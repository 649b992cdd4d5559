-- Laws of the quantisers 0 to 127.
use Rattle.std.specs.Prelude.{◌≡◌, ◌≢◌, ℕ, ◌+◌, ◌*◌, ◌<◌, ◌≤◌, ℤ, pos, ◌-ℤ◌, unsigned_abs}
use Rattle.quant_factors.specs.Factors.{factor_of, inverse_of, forward_of}

-- A higher index has a factor at least as great.
abbrev pub FactorsRise : Type 0
FactorsRise = (i : ℕ) → i < 127 → factor_of i ≤ factor_of (i + 1)

-- No quantised value is dequantised to a smaller magnitude.
abbrev pub DequantisingKeepsTheMagnitude : Type 0
DequantisingKeepsTheMagnitude = (q : ℤ) (i : ℕ) → i ≤ 127 → unsigned_abs q ≤ unsigned_abs (inverse_of q i)

-- At index 0 each coefficient comes back as it was.
abbrev pub NothingIsLostAtZero : Type 0
NothingIsLostAtZero = (c : ℤ) → inverse_of (forward_of c 0) 0 ≡ c

-- Twice the error is at most the number's magnitude plus 2, where anything is left of the number.
abbrev pub TheErrorIsSmall : Type 0
TheErrorIsSmall = (r : ℤ) (i : ℕ) → i ≤ 127 → forward_of r i ≢ pos 0
    → 2 * unsigned_abs (inverse_of (forward_of r i) i -ℤ r) ≤ unsigned_abs r + 2

-- a coarser index gives no greater magnitude
abbrev pub CoarserIsNoGreater : Type 0
CoarserIsNoGreater = (c : ℤ) (i j : ℕ) → i ≤ j → j ≤ 127 → unsigned_abs (forward_of c j) ≤ unsigned_abs (forward_of c i)
