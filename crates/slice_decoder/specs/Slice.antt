-- A slice as a function of its bytes (SMPTE ST 2042-1:2017, 13.5.3.1 ld_slice, 13.5.6.3 slice_band, 13.5.6.4
-- color_diff_slice_band).
use Rattle.std.specs.Prelude.{ℕ, zero, suc, ◌+◌, ◌*◌, ◌&&◌, Bool, true, if◌then◌else◌, nat_le, nat_lt, List, [], ◌∷◌, ◌++◌, length, take, drop, replicate, ℤ, unsigned_abs}
use Rattle.bit_codes.specs.declared.TheConstants.{MAX_MAGNITUDE}
use Rattle.bit_codes.specs.Bits.{bits_of, binary_after}
use Rattle.bounded_blocks.specs.Reading.{values}
use Rattle.slice_geometry.specs.declared.Size.{Size}
use Rattle.slice_geometry.specs.Slicing.{Slicing, length_bits}
use Rattle.slice_geometry.specs.SliceOrder.{level_rect, area, place_count}
use Rattle.quant_factors.specs.Factors.{inverse_of}
use Rattle.quant_factors.specs.Weights.{Weights, band_quantiser}

-- ---- the bytes

-- What a slice's bytes hold: its quantisation index, the length of its luma block in bits, whether that is above the bits
-- left, and the quantised values of its two blocks.
pub record Slice : Type 0 where
  pub qindex : ℕ
  pub luma_bits : ℕ
  pub too_long : Bool
  pub luma : List ℤ
  pub colour : List ℤ

-- Its index has 7 bits, the luma length as many as it takes, and the two blocks all the others. A block past whose end
-- values are read is as if ones followed. At each place the colour block has the value of C1 and then that of C2.
abbrev pub slice_of : List ℕ → ℕ → ℕ → Slice
slice_of bytes lumas colours =
    let bits = bits_of bytes in
    let m = length_bits (length bytes) in
    let luma_bits = binary_after 0 (take m (drop 7 bits)) in
    let blocks = drop (7 + m) bits in
    let too_long = nat_lt (length blocks) luma_bits in
    record {
      qindex = binary_after 0 (take 7 bits);
      luma_bits = luma_bits;
      too_long = too_long;
      luma = if too_long then [] else values lumas (take luma_bits blocks);
      colour = if too_long then [] else values (2 * colours) (drop luma_bits blocks);
    }

-- the slice in column sx and row sy of a picture whose components have these sizes
abbrev pub slice_at : Slicing → Size → Size → ℕ → ℕ → List ℕ → Slice
slice_at s luma colour sx sy bytes = slice_of bytes (place_count s luma sx sy) (place_count s colour sx sy)

-- ---- dequantised

-- the quantiser of each value of a block, in the slice's order, where each place has so many values
abbrev pub quantisers : ℕ → Slicing → Size → ℕ → ℕ → Weights → ℕ → ℕ → List ℕ
quantisers each s size sx sy matrix qindex zero =
    replicate (each * area (level_rect s size sx sy 0)) (band_quantiser matrix qindex 0 0)
quantisers each s size sx sy matrix qindex (suc level) =
    let count = each * area (level_rect s size sx sy (suc level)) in
    quantisers each s size sx sy matrix qindex level
    ++ (replicate count (band_quantiser matrix qindex (suc level) 1)
    ++ (replicate count (band_quantiser matrix qindex (suc level) 2)
    ++ replicate count (band_quantiser matrix qindex (suc level) 3)))

-- each value by its quantiser (13.3.1 inverse_quant)
abbrev pub dequantised : List ℤ → List ℕ → List ℤ
dequantised [] quantisers = []
dequantised (v ∷ vs) [] = []
dequantised (v ∷ vs) (q ∷ quantisers) = inverse_of v q ∷ dequantised vs quantisers

-- none of the magnitudes passes 2 ^ 36
abbrev pub are_small : List ℤ → Bool
are_small [] = true
are_small (v ∷ vs) = nat_le (unsigned_abs v) MAX_MAGNITUDE && are_small vs

-- the dequantised values of a slice's luma block, in its order
abbrev pub luma_values : Slicing → Size → ℕ → ℕ → Weights → Slice → List ℤ
luma_values s size sx sy matrix slice = dequantised slice.luma (quantisers 1 s size sx sy matrix slice.qindex s.depth)

-- and those of its colour block
abbrev pub colour_values : Slicing → Size → ℕ → ℕ → Weights → Slice → List ℤ
colour_values s size sx sy matrix slice = dequantised slice.colour (quantisers 2 s size sx sy matrix slice.qindex s.depth)

-- no dequantised value of the slice passes 2 ^ 36
abbrev pub is_small : Slicing → Size → Size → ℕ → ℕ → Weights → Slice → Bool
is_small s luma colour sx sy matrix slice =
    are_small (luma_values s luma sx sy matrix slice) && are_small (colour_values s colour sx sy matrix slice)
