-- The coding parameters of a header (SMPTE ST 2042-1:2017, 11.6: set_coding_parameters, picture_dimensions, video_depth):
-- the sizes and depths of a picture's components.
use Rattle.std.specs.Prelude.{◌≡◌, ℕ, ◌+◌, ◌/◌, ◌==◌, if◌then◌else◌}
use Rattle.bit_codes.specs.Codes.{intlog2}
use Rattle.slice_geometry.specs.declared.Size.{Size}
use Rattle.slice_geometry.specs.declared.PictureShape.{PictureShape}
use Rattle.sequence_header.specs.declared.parts.HeaderParts.{HeaderParts}
use Rattle.sequence_header.specs.declared.parts.SignalRange.{SignalRange}
use Rattle.sequence_header.specs.declared.parts.SignalField.{SignalField}
use Rattle.sequence_header.specs.declared.parts.SignalField.TheVariants as signals

-- a range of its four numbers
abbrev pub range : ℕ → ℕ → ℕ → ℕ → SignalRange
range a b c d = record { luma_offset = a; luma_excursion = b; colour_offset = c; colour_excursion = d }

-- the standard's signal ranges 1 to 4 (11.4.9): 8 bit full range, 8 bit video, 10 bit video, 12 bit video
abbrev pub preset_range : ℕ → SignalRange
preset_range n = if n == 1 then range 0 255 128 255 else if n == 2 then range 16 219 128 224 else if n == 3
    then range 64 876 512 896 else range 256 3504 2048 3584

-- the range of a signal (11.4.9)
abbrev pub signal_range : SignalField → SignalRange
signal_range (signals.Index n) = preset_range n
signal_range (signals.Custom s) = s

-- with field coding a picture is a field, which has half of the frame's rows
abbrev pub picture_height : HeaderParts → ℕ
picture_height p = if p.coding == 1 then p.height / 2 else p.height

-- the size of luma in one picture
abbrev pub luma_size : HeaderParts → Size
luma_size p = record { w = p.width; h = picture_height p }

-- colour has half of the columns in 4:2:2 and 4:2:0, and half of the rows in 4:2:0
abbrev pub colour_size : HeaderParts → Size
colour_size p = record {
  w = if p.sampling == 0 then p.width else p.width / 2;
  h = if p.sampling == 2 then picture_height p / 2 else picture_height p;
}

-- the bits of a luma sample
abbrev pub luma_depth : HeaderParts → ℕ
luma_depth p = intlog2 ((signal_range p.signal).luma_excursion + 1)

-- the bits of a colour sample
abbrev pub colour_depth : HeaderParts → ℕ
colour_depth p = intlog2 ((signal_range p.signal).colour_excursion + 1)

-- the picture shape of a header
pub record IsShapeOf (shape : PictureShape) (p : HeaderParts) : Type 0 where
  pub luma : shape.luma ≡ luma_size p
  pub colour : shape.colour ≡ colour_size p
  pub luma_depth : shape.luma_depth ≡ luma_depth p
  pub colour_depth : shape.colour_depth ≡ colour_depth p
