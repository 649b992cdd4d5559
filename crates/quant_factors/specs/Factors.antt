-- What a quantiser does to a number (SMPTE ST 2042-1:2017, 13.3.1 inverse_quant and 13.3.2 quant_factor, quant_offset).
use Rattle.std.specs.Prelude.{◌≡◌, ℕ, ◌+◌, ◌*◌, ◌/◌, ◌%◌, ◌^◌, ◌<◌, ◌≤◌, ◌==◌, if◌then◌else◌, ℤ, pos, negsuc, neg_ℤ, unsigned_abs}
use Rattle.bit_codes.specs.declared.TheConstants.{MAX_MAGNITUDE}
use Rattle.quant_factors.specs.declared.Dequantised.{Dequantised}
use Rattle.quant_factors.specs.declared.Dequantised.TheVariants.{Is, TooLarge}

-- four times two to the power of a quarter of the index, rounded
unfoldable pub factor_of : ℕ → ℕ
factor_of i =
    if i % 4 == 0 then 4 * 2 ^ (i / 4)
    else (if i % 4 == 1 then (503829 * 2 ^ (i / 4) + 52958) / 105917
    else (if i % 4 == 2 then (665857 * 2 ^ (i / 4) + 58854) / 117708
    else (440253 * 2 ^ (i / 4) + 32722) / 65444))

unfoldable pub offset_of : ℕ → ℕ
offset_of i = if i == 0 then 1 else (if i == 1 then 2 else (factor_of i + 1) / 2)

-- m with the sign of z
abbrev pub signed : ℤ → ℕ → ℤ
signed (pos n) m = pos m
signed (negsuc n) m = neg_ℤ (pos m)

-- what a quantised magnitude is restored to
unfoldable pub restored_of : ℕ → ℕ → ℕ
restored_of m i = if m == 0 then 0 else (m * factor_of i + offset_of i + 2) / 4

unfoldable pub inverse_of : ℤ → ℕ → ℤ
inverse_of q i = signed q (restored_of (unsigned_abs q) i)

-- four times the magnitude over the factor, rounded down, with the sign
unfoldable pub forward_of : ℤ → ℕ → ℤ
forward_of c i = signed c (4 * unsigned_abs c / factor_of i)

-- A dequantised number is refused exactly where its magnitude passes 2 ^ 36.
abbrev pub IsDequantised : ℤ → ℕ → Dequantised → Type 0
IsDequantised q i (Is v) = (v ≡ inverse_of q i) × (unsigned_abs v ≤ MAX_MAGNITUDE)
IsDequantised q i TooLarge = MAX_MAGNITUDE < unsigned_abs (inverse_of q i)
