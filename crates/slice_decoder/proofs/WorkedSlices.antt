-- Worked slices, by evaluation.
use Rattle.std.proofs.Common.{◌≡◌, [], ◌∷◌, refl, true, false}
use Rattle.std.specs.Prelude.{pos, negsuc}
use Rattle.slice_geometry.specs.declared.Size.{Size}
use Rattle.slice_geometry.specs.Slicing.{Slicing}
use Rattle.bit_codes.specs.Codes.{intlog2}
use Rattle.quant_factors.specs.Factors.{inverse_of, restored_of, factor_of, offset_of}
use Rattle.slice_decoder.specs.Slice.{slice_at, luma_values, colour_values, are_small}

abbrev one : Size
one = record { w = 2; h = 2 }

abbrev level_one : Slicing
level_one = record { depth = 1; slices_x = 1; slices_y = 1; a = 5; b = 1 }

-- LL 21, HL 3, LH -5, HH 2, and nothing in the colour components
four_bands : slice_at level_one one one 0 0 (0x00 ∷ 0xD0 ∷ 0xA4 ∷ 0x12 ∷ 0x6D ∷ []) ≡ record { qindex = 0; luma_bits = 26; too_long = false; luma = pos 21 ∷ pos 3 ∷ negsuc 4 ∷ pos 2 ∷ []; colour = pos 0 ∷ pos 0 ∷ pos 0 ∷ pos 0 ∷ pos 0 ∷ pos 0 ∷ pos 0 ∷ pos 0 ∷ [] }
unfolding intlog2
four_bands = refl

lossless : luma_values level_one one 0 0 (record { depth = 1; entries = 0 ∷ 0 ∷ 0 ∷ 0 ∷ [] }) (slice_at level_one one one 0 0 (0x00 ∷ 0xD0 ∷ 0xA4 ∷ 0x12 ∷ 0x6D ∷ [])) ≡ pos 21 ∷ pos 3 ∷ negsuc 4 ∷ pos 2 ∷ []
unfolding intlog2 inverse_of restored_of factor_of offset_of
lossless = refl

abbrev dot : Size
dot = record { w = 1; h = 1 }

abbrev flat : Slicing
flat = record { depth = 0; slices_x = 1; slices_y = 1; a = 2; b = 1 }

-- a luma length of 6 where 5 bits are left
long : slice_at flat dot dot 0 0 (0x00 ∷ 0xDF ∷ []) ≡ record { qindex = 0; luma_bits = 6; too_long = true; luma = []; colour = [] }
unfolding intlog2
long = refl

-- C1 = -63 at index 127 is too large
large : are_small (colour_values (record flat { a = 3 }) dot 0 0 (record { depth = 0; entries = 0 ∷ [] }) (slice_at (record flat { a = 3 }) dot dot 0 0 (0xFE ∷ 0x00 ∷ 0x00 ∷ []))) ≡ false
unfolding intlog2 inverse_of restored_of factor_of offset_of
large = refl
