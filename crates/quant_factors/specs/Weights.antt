-- The quantisation matrix (SMPTE ST 2042-1:2017, 12.4.5.3 and 13.5.5): a number for each subband, by which its
-- quantisation index lies below that of the slice.
use Rattle.std.specs.Prelude.{ℕ, ◌-◌, List, slice_index}
use Rattle.planes.specs.Subbands.{band_index}

-- the depth of the transform, and the entries from level 0 up, in the order HL, LH, HH within a level
pub record Weights : Type 0 where
  pub depth : ℕ
  pub entries : List ℕ

-- the entry of the subband of this level and orientation
abbrev pub entry_of : Weights → ℕ → ℕ → ℕ
entry_of m level orient = slice_index m.entries (band_index level orient)

-- the slice's index less the entry, or 0
abbrev pub quantiser_of : ℕ → ℕ → ℕ
quantiser_of qindex entry = qindex - entry

-- the quantisation index of a band in a slice of this index (13.5.5 slice_quantizers)
abbrev pub band_quantiser : Weights → ℕ → ℕ → ℕ → ℕ
band_quantiser matrix qindex level orient = quantiser_of qindex (entry_of matrix level orient)
