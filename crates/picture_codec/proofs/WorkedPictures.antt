-- Worked pictures, by evaluation.
use Rattle.std.proofs.Common.{◌≡◌, ℕ, List, [], ◌∷◌, refl}
use Rattle.slice_geometry.specs.declared.Component.TheVariants.{Luma, C1, C2}
use Rattle.bit_codes.specs.Codes.{intlog2}
use Rattle.quant_factors.specs.Factors.{inverse_of, restored_of, factor_of, offset_of}
use Rattle.dc_prediction.specs.Prediction.{restored}
use Rattle.lifting.specs.declared.Wavelet.TheVariants.{LeGall, HaarFlat}
use Rattle.lifting.specs.Transform.{synthesis, synthesis_level, interleaved}
use Rattle.lifting.specs.Lines.{lift, synthesis_line}
use Rattle.lifting.specs.Steps.{step, pair_step}
use Rattle.transform_params.specs.Params.{Params}
use Rattle.slice_geometry.specs.Frames.{Frame}
use Rattle.picture_codec.specs.Pictures.{coefficient, sample}

abbrev square : Frame
square = record { luma = record { w = 2; h = 2 }; colour = record { w = 2; h = 2 }; luma_depth = 8; colour_depth = 8 }

abbrev level_one : Params
level_one = record { wavelet = LeGall; slicing = record { depth = 1; slices_x = 1; slices_y = 1; a = 5; b = 1 }; matrix = record { depth = 1; entries = 0 ∷ 0 ∷ 0 ∷ 0 ∷ [] } }

abbrev four : Frame → Params → List (List ℕ) → List ℕ
four f p slices = sample f p slices Luma 0 0 ∷ sample f p slices Luma 0 1 ∷ sample f p slices Luma 1 0 ∷ sample f p slices Luma 1 1 ∷ sample f p slices C1 1 1 ∷ sample f p slices C2 0 1 ∷ []

lossless : four square level_one ((0x00 ∷ 0xD0 ∷ 0xA4 ∷ 0x12 ∷ 0x6D ∷ []) ∷ []) ≡ 0x8B ∷ 0x8C ∷ 0x88 ∷ 0x8A ∷ 0x80 ∷ 0x80 ∷ []
unfolding intlog2 inverse_of restored_of factor_of offset_of restored synthesis synthesis_level interleaved lift synthesis_line step pair_step coefficient sample
lossless = refl

coarser : four square (record level_one { slicing = record { depth = 1; slices_x = 1; slices_y = 1; a = 4; b = 1 } }) ((0x07 ∷ 0x44 ∷ 0x62 ∷ 0x72 ∷ []) ∷ []) ≡ 0x8C ∷ 0x8C ∷ 0x89 ∷ 0x8B ∷ 0x80 ∷ 0x80 ∷ []
unfolding intlog2 inverse_of restored_of factor_of offset_of restored synthesis synthesis_level interleaved lift synthesis_line step pair_step coefficient sample
coarser = refl

abbrev pair : Frame
pair = record { luma = record { w = 2; h = 1 }; colour = record { w = 2; h = 1 }; luma_depth = 8; colour_depth = 8 }

abbrev two_slices : Params
two_slices = record { wavelet = HaarFlat; slicing = record { depth = 0; slices_x = 2; slices_y = 1; a = 1; b = 1 }; matrix = record { depth = 0; entries = 0 ∷ [] } }

abbrev line : List (List ℕ) → List ℕ
line slices = sample pair two_slices slices Luma 0 0 ∷ sample pair two_slices slices Luma 0 1 ∷ sample pair two_slices slices C1 0 0 ∷ sample pair two_slices slices C1 0 1 ∷ sample pair two_slices slices C2 0 0 ∷ sample pair two_slices slices C2 0 1 ∷ []

predicted : line ((0x0A ∷ []) ∷ (0x03 ∷ []) ∷ []) ≡ 0x80 ∷ 0x80 ∷ 0x7A ∷ 0x7A ∷ 0x80 ∷ 0x80 ∷ []
unfolding intlog2 inverse_of restored_of factor_of offset_of restored synthesis synthesis_level interleaved lift synthesis_line step pair_step coefficient sample
predicted = refl

abbrev dot : Frame
dot = record { luma = record { w = 1; h = 1 }; colour = record { w = 1; h = 1 }; luma_depth = 8; colour_depth = 8 }

abbrev one_slice : Params
one_slice = record { wavelet = HaarFlat; slicing = record { depth = 0; slices_x = 1; slices_y = 1; a = 1; b = 1 }; matrix = record { depth = 0; entries = 0 ∷ [] } }

abbrev point : List (List ℕ) → List ℕ
point slices = sample dot one_slice slices Luma 0 0 ∷ sample dot one_slice slices C1 0 0 ∷ sample dot one_slice slices C2 0 0 ∷ []

grey : point ((0x01 ∷ []) ∷ []) ≡ 0x80 ∷ 0x80 ∷ 0x80 ∷ []
unfolding intlog2 inverse_of restored_of factor_of offset_of restored synthesis coefficient sample
grey = refl

less : point ((0x00 ∷ []) ∷ []) ≡ 0x80 ∷ 0x7E ∷ 0x80 ∷ []
unfolding intlog2 inverse_of restored_of factor_of offset_of restored synthesis coefficient sample
less = refl

clipped_low : point ((0xFE ∷ []) ∷ []) ≡ 0x80 ∷ 0x00 ∷ 0x80 ∷ []
unfolding intlog2 inverse_of restored_of factor_of offset_of restored synthesis coefficient sample
clipped_low = refl
