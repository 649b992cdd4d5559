-- The fields that transform parameters are written as.
use Rattle.std.specs.Prelude.{◌≡◌, ℕ, ◌+◌, ◌*◌, ◌/◌, ◌<◌, ◌^◌, true, List, [], ◌∷◌, ◌++◌, length, map}
use Rattle.std.specs.List.{AllByRecursion}
use Rattle.bit_codes.specs.Bits.{bytes_of, zeros_to_byte_end}
use Rattle.field_rows.specs.Rows.{Value, Number, Flag}
use Rattle.field_rows.specs.Given.{value_bits}
use Rattle.slice_geometry.specs.Slicing.{Slicing, IsAllowed, total_bytes}
use Rattle.quant_factors.specs.Weights.{Weights}
use Rattle.lifting.specs.declared.Wavelet.{Wavelet}
use Rattle.lifting.specs.declared.Wavelet.TheVariants.{LeGall, HaarFlat, HaarShift}
use Rattle.transform_params.specs.Params.{Params}

-- a wavelet's index (12.4.1)
abbrev pub wavelet_index : Wavelet → ℕ
wavelet_index LeGall = 1
wavelet_index HaarFlat = 3
wavelet_index HaarShift = 4

-- the field of a wavelet: its index (12.4.1)
abbrev pub wavelet_fields : Wavelet → List Value
wavelet_fields wavelet = Number (wavelet_index wavelet) ∷ []

-- the depth, and slice_parameters (12.4.5.2)
abbrev pub slicing_fields : Slicing → List Value
slicing_fields s = Number s.depth ∷ Number s.slices_x ∷ Number s.slices_y ∷ Number s.a ∷ Number s.b ∷ []

-- the fields of a custom matrix: its entries
abbrev pub entry_fields : List ℕ → List Value
entry_fields entries = map Number entries

-- quant_matrix (12.4.5.3)
abbrev pub matrix_fields : Weights → List Value
matrix_fields matrix = Flag true ∷ entry_fields matrix.entries

-- the fields of parameters in their order (12.4)
abbrev pub fields_of : Params → List Value
fields_of p = wavelet_fields p.wavelet ++ (slicing_fields p.slicing ++ matrix_fields p.matrix)

-- how many bits the fields have
abbrev pub bit_length : Params → ℕ
bit_length p = length (value_bits (fields_of p))

-- how many bytes they have, with the bits up to the last one's end
abbrev pub byte_length : Params → ℕ
byte_length p = (bit_length p + 7) / 8

-- a picture unit: its head, the picture number, the parameters and the slices
abbrev pub unit_length : Params → ℕ
unit_length p = 13 + 4 + byte_length p + total_bytes p.slicing

-- parameters as bytes: the fields, and zeros up to the last byte's end
abbrev pub params_bytes : Params → List ℕ
params_bytes p = bytes_of (value_bits (fields_of p) ++ zeros_to_byte_end (bit_length p))

-- Parameters that are written as they are read: they break no rule, and each number is one that a field holds.
pub record AreLawfulParams (p : Params) : Type 0 where
  pub allowed : IsAllowed p.slicing
  pub a : p.slicing.a < 2 ^ 32
  pub b : p.slicing.b < 2 ^ 32
  pub deep : p.matrix.depth ≡ p.slicing.depth
  pub count : length p.matrix.entries ≡ 1 + 3 * p.slicing.depth
  pub small : AllByRecursion (λ n. n < 2 ^ 32) p.matrix.entries
