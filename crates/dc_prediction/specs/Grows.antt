-- How far restored values go in each width.
use Rattle.std.specs.Prelude.{ℕ, ◌+◌, ◌*◌, ◌^◌, ◌≤◌, ℤ, ◌+ℤ◌}
use Rattle.std.proofs.Common.{arith}
use Rattle.std.proofs.lemmas.Int.{ints}
use Rattle.bit_codes.specs.declared.TheConstants.{MAX_MAGNITUDE}
use Rattle.planes.specs.Numbers.{Within}
use Rattle.dc_prediction.specs.Restoring.{IsNarrow}
use Rattle.dc_prediction.specs.AnyWidth.{IsAny}

-- a kept sum in 32 bits is within 2^18
pub narrow_grows : (d : ℕ) (r m : ℤ) → Within (2 ^ 18) r → Within (2 ^ 18) m → IsNarrow (r +ℤ m) → Within (2 ^ 18) (r +ℤ m)
narrow_grows d r m pr pm narrow = record { low = narrow.low; high = narrow.high }

-- in 64 bits the bound rises with each place
pub wide_rises : (d : ℕ) → d * MAX_MAGNITUDE ≤ (d + 1) * MAX_MAGNITUDE
wide_rises d = omega arith

-- by at most the magnitude of a coefficient
pub wide_grows : (d : ℕ) (r m : ℤ) → Within MAX_MAGNITUDE r → Within (d * MAX_MAGNITUDE) m → IsAny (r +ℤ m) → Within ((d + 1) * MAX_MAGNITUDE) (r +ℤ m)
wide_grows d r m pr pm any = record { low = omega (arith, ints); high = omega (arith, ints) }
