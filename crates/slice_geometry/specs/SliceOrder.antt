-- The order of a slice's places: LL, then per level HL, LH, HH, and in each band row by row
-- (SMPTE ST 2042-1:2017, 13.5.3.1 ld_slice, 13.5.6.3 slice_band).
use Rattle.std.specs.Prelude.{ℕ, zero, suc, ◌+◌, ◌-◌, ◌*◌, ◌/◌, ◌==◌, slice_index_or, if◌then◌else◌, ℤ}
use Rattle.planes.specs.declared.Rect.{Rect}
use Rattle.planes.specs.Raster.{Raster}
use Rattle.planes.specs.Subbands.{BandStack, no_band}
use Rattle.slice_geometry.specs.declared.Size.{Size}
use Rattle.slice_geometry.specs.Slicing.{Slicing}
use Rattle.slice_geometry.specs.Geometry.{band_size, slice_rect}

-- ---- places

-- the places of the slice in column sx and row sy, in a level's bands of a component of this size
abbrev pub level_rect : Slicing → Size → ℕ → ℕ → ℕ → Rect
level_rect s size sx sy level = slice_rect s (band_size s.depth level size) sx sy

-- how many places a rectangle has
abbrev pub area : Rect → ℕ
area r = (r.x1 - r.x0) * (r.y1 - r.y0)

-- how many places the bands of the levels up to this one have
abbrev pub places_to : Slicing → Size → ℕ → ℕ → ℕ → ℕ
places_to s size sx sy zero = area (level_rect s size sx sy 0)
places_to s size sx sy (suc level) = places_to s size sx sy level + 3 * area (level_rect s size sx sy (suc level))

-- how many places the slice has in a component
abbrev pub place_count : Slicing → Size → ℕ → ℕ → ℕ
place_count s size sx sy = places_to s size sx sy s.depth

-- how many come before those of a band
abbrev pub places_before : Slicing → Size → ℕ → ℕ → ℕ → ℕ → ℕ
places_before s size sx sy zero orient = 0
places_before s size sx sy (suc level) orient =
    places_to s size sx sy level + (orient - 1) * area (level_rect s size sx sy (suc level))

-- the number of a place in a rectangle, row by row
abbrev pub number_in : Rect → ℕ → ℕ → ℕ
number_in r y x = (y - r.y0) * (r.x1 - r.x0) + (x - r.x0)

-- the number of a place among all of the slice's in its component
abbrev pub place_number : Slicing → Size → ℕ → ℕ → ℕ → ℕ → ℕ → ℕ → ℕ
place_number s size sx sy level orient y x =
    places_before s size sx sy level orient + number_in (level_rect s size sx sy level) y x

-- ---- bands by their numbers in this order, from 0 on

-- the level of subband k of a component, in the order of the stream
abbrev pub level_of : ℕ → ℕ
level_of k = (k + 2) / 3

-- and its orientation: 0 to 3 for LL, HL, LH, HH
abbrev pub orient_of : ℕ → ℕ
orient_of k = if k == 0 then 0 else k + 3 - 3 * level_of k

-- band number k
abbrev pub numbered : BandStack → ℕ → Raster ℤ
numbered b k = slice_index_or b.bands k no_band
