-- The places of a slice in their order: LL, then per level HL, LH, HH, and in each band row by row (SMPTE ST 2042-1:2017,
-- 13.5.6.3 slice_band).
use Rattle.std.specs.Prelude.{ℕ, zero, suc, ◌-◌, List, ◌++◌, map}
use Rattle.std.specs.List.{flat_map, range_with_len}
use Rattle.planes.specs.declared.Rect.{Rect}
use Rattle.slice_geometry.specs.declared.Size.{Size}
use Rattle.slice_geometry.specs.Slicing.{Slicing}
use Rattle.slice_geometry.specs.SliceOrder.{level_rect}

-- a place of a slice: its level, its orientation, its row and its column
pub record Place : Type 0 where
  pub level : ℕ
  pub orient : ℕ
  pub y : ℕ
  pub x : ℕ

-- the places of one row of a rectangle in a band
abbrev pub row_places : ℕ → ℕ → Rect → ℕ → List Place
row_places level orient r y =
    map (λ x. record { level = level; orient = orient; y = y; x = x }) (range_with_len r.x0 (r.x1 - r.x0))

-- the places of a rectangle in a band, row by row
abbrev pub rect_places : ℕ → ℕ → Rect → List Place
rect_places level orient r = flat_map (row_places level orient r) (range_with_len r.y0 (r.y1 - r.y0))

-- those of the levels up to this one
abbrev pub places_of : Slicing → Size → ℕ → ℕ → ℕ → List Place
places_of s size sx sy zero = rect_places 0 0 (level_rect s size sx sy 0)
places_of s size sx sy (suc level) =
    let r = level_rect s size sx sy (suc level) in
    places_of s size sx sy level ++ (rect_places (suc level) 1 r ++ (rect_places (suc level) 2 r ++ rect_places (suc level) 3 r))
