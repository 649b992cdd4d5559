-- The rows of the transform parameters, in order (SMPTE ST 2042-1:2017, 12.4: transform_parameters, slice_parameters,
-- quant_matrix). A number past its rule is refused at its own field.
use Rattle.std.specs.Prelude.{ℕ, ◌+◌, ◌*◌, ◌/◌, ◌^◌, ◌==◌, ◌&&◌, ◌||◌, Bool, [], ◌∷◌, nat_le, if◌then◌else◌}
use Rattle.std.specs.Int.{is_in_range}
use Rattle.bit_codes.specs.declared.CodeFault.{CodeFault}
use Rattle.bit_codes.specs.declared.CodeFault.TheVariants as codes
use Rattle.field_rows.specs.Rows.{◌or_else◌, Rows, done, ◌>>=◌, number, within, number_under, flag_set, numbers, whole_bytes, Fault}
use Rattle.slice_geometry.specs.Slicing.{Slicing}
use Rattle.quant_factors.specs.Weights.{Weights}
use Rattle.lifting.specs.declared.Wavelet.{Wavelet}
use Rattle.lifting.specs.declared.Wavelet.TheVariants.{LeGall, HaarFlat, HaarShift}
use Rattle.transform_params.specs.declared.faults.TransformReason.{TransformReason}
use Rattle.transform_params.specs.declared.faults.TransformReason.TheVariants.{Truncated, NumberTooLarge, WaveletRefused, DepthRefused, SlicesRefused, ShareRefused, DefaultMatrix}
use Rattle.transform_params.specs.declared.faults.TransformFault.{TransformFault}

-- What the parameters say: the wavelet, how the picture is cut into slices, and the quantisation matrix.
pub record Params : Type 0 where
  pub wavelet : Wavelet
  pub slicing : Slicing
  pub matrix : Weights

-- the reasons of a short field and of a number that is too large
abbrev pub reason_of : CodeFault → TransformReason
reason_of codes.Short = Truncated
reason_of codes.TooLarge = NumberTooLarge

-- a fault as rows have it
abbrev pub params_fault : TransformFault → Fault TransformReason
params_fault f = record { place = f.bit; reason = f.reason }

-- the wavelet indices that this profile allows
abbrev pub is_wavelet : ℕ → Bool
is_wavelet index = index == 1 || (index == 3 || index == 4)

-- 1 is LeGall (5,3), 3 Haar without shift, 4 Haar with one shift per level
abbrev pub wavelet_of : ℕ → Wavelet
wavelet_of index = if index == 1 then LeGall else (if index == 3 then HaarFlat else HaarShift)

unfoldable pub wavelet_index_rows : Rows TransformReason ℕ
wavelet_index_rows = number_under (λ v. (is_wavelet v or_else WaveletRefused v) ∷ [])

unfoldable pub wavelet_rows : Rows TransformReason Wavelet
wavelet_rows = do
  index ← wavelet_index_rows
  done (wavelet_of index)

-- the slices down; there are at most 2 ^ 20 slices in all
unfoldable pub slices_y_rows : ℕ → Rows TransformReason ℕ
slices_y_rows slices_x = number_under (λ v. ((is_in_range 1 8192 v && nat_le (slices_x * v) (2 ^ 20)) or_else SlicesRefused) ∷ [])

-- the denominator of a slice's bytes: each slice has a byte, and all of them have at most 2 ^ 28
unfoldable pub denominator_rows : ℕ → ℕ → Rows TransformReason ℕ
denominator_rows count a =
    number_under (λ v. ((nat_le 1 v && (nat_le v a && nat_le (count * a / v) (2 ^ 28))) or_else ShareRefused) ∷ [])

-- the depth, and slice_parameters (12.4.5.2)
unfoldable pub slicing_rows : Rows TransformReason Slicing
slicing_rows = do
  depth ← within 0 4 DepthRefused
  slices_x ← within 1 8192 SlicesRefused
  slices_y ← slices_y_rows slices_x
  a ← number
  b ← denominator_rows (slices_x * slices_y) a
  done (record { depth = depth; slices_x = slices_x; slices_y = slices_y; a = a; b = b })

-- quant_matrix (12.4.5.3): an entry for each band, LL first and then per level HL, LH, HH
unfoldable pub matrix_rows : ℕ → Rows TransformReason Weights
matrix_rows depth = do
  custom ← flag_set DefaultMatrix
  entries ← numbers (1 + 3 * depth)
  done (record { depth = depth; entries = entries })

-- all fields of the transform parameters (12.4.1)
unfoldable pub params_fields : Rows TransformReason Params
params_fields = do
  wavelet ← wavelet_rows
  slicing ← slicing_rows
  matrix ← matrix_rows slicing.depth
  done (record { wavelet = wavelet; slicing = slicing; matrix = matrix })

-- the transform parameters, and the bits up to the byte's end
unfoldable pub params_rows : Rows TransformReason Params
params_rows = whole_bytes params_fields
