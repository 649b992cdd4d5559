-- Where the subbands and the slices lie (SMPTE ST 2042-1:2017, 13.2.3 subband_width, subband_height, and 13.5.6.2 slice_left,
-- slice_right, slice_top, slice_bottom).
use Rattle.std.specs.Prelude.{ℕ, ◌+◌, ◌-◌, ◌*◌, ◌/◌, ◌^◌}
use Rattle.planes.specs.declared.Rect.{Rect}
use Rattle.planes.specs.Subbands.{subband_length}
use Rattle.slice_geometry.specs.declared.Size.{Size}
use Rattle.slice_geometry.specs.Slicing.{Slicing}

-- the width of a component once it is padded to a multiple of 2 ^ depth; and so for heights
abbrev pub padded_length : ℕ → ℕ → ℕ
padded_length depth length = 2 ^ depth * ((length + 2 ^ depth - 1) / 2 ^ depth)

-- the width of a level's subbands in a component of this width; and so for heights
abbrev pub band_length : ℕ → ℕ → ℕ → ℕ
band_length depth level length = subband_length depth level (padded_length depth length)

-- In a subband of this width, the first column of slice column `index` out of `count`; and so for rows. It is the
-- standard's slice_left, and slice_top.
abbrev pub slice_start : ℕ → ℕ → ℕ → ℕ
slice_start length count index = length * index / count

-- the column behind its last one: slice_right, and slice_bottom
abbrev pub slice_end : ℕ → ℕ → ℕ → ℕ
slice_end length count index = slice_start length count (index + 1)

-- the slice column that holds column x of a subband
abbrev pub holding : ℕ → ℕ → ℕ → ℕ
holding count length x = ((x + 1) * count - 1) / length

-- a component's size with each length padded (13.2.3)
abbrev pub padded_size : ℕ → Size → Size
padded_size depth size = record { w = padded_length depth size.w; h = padded_length depth size.h }

-- the size of a level's subbands, of a component's size
abbrev pub band_size : ℕ → ℕ → Size → Size
band_size depth level size = record { w = band_length depth level size.w; h = band_length depth level size.h }

-- the places of slice (sx, sy) in a subband of this size
abbrev pub slice_rect : Slicing → Size → ℕ → ℕ → Rect
slice_rect s band sx sy = record {
  x0 = slice_start band.w s.slices_x sx;
  x1 = slice_end band.w s.slices_x sx;
  y0 = slice_start band.h s.slices_y sy;
  y1 = slice_end band.h s.slices_y sy;
}
