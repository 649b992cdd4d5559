-- The rectangles of a slice, a level each.
use Rattle.std.specs.Prelude.{◌≡◌, ℕ, zero, suc, ◌+◌, ◌*◌, ◌<◌, ◌≤◌, List, drop, slice_index_or, ℤ}
use Rattle.planes.specs.declared.Rect.{Rect}
use Rattle.slice_geometry.specs.declared.Size.{Size}
use Rattle.slice_geometry.specs.Slicing.{Slicing}
use Rattle.planes.specs.Subbands.{BandStack}
use Rattle.slice_geometry.specs.SliceOrder.{level_rect, area, level_of, numbered}
use Rattle.slice_decoder.specs.Dealing.{HoldsRect}

-- a rectangle with its ends in order and no coordinate above 8192
pub record IsLowRect (r : Rect) : Type 0 where
  pub across : r.x0 ≤ r.x1
  pub down : r.y0 ≤ r.y1
  pub narrow : r.x1 ≤ 8192
  pub low : r.y1 ≤ 8192

-- a rectangle with no place
abbrev pub no_rect : Rect
no_rect = record { x0 = 0; x1 = 0; y0 = 0; y1 = 0 }

-- those of the slice in column sx and row sy of a component of this size
pub record AreRects (s : Slicing) (size : Size) (sx sy : ℕ) (rects : List Rect) : Type 0 where
  pub shallow : s.depth ≤ 4
  pub same : (level : ℕ) → level ≤ s.depth → slice_index_or rects level no_rect ≡ level_rect s size sx sy level
  pub all_low : (level : ℕ) → level ≤ s.depth → IsLowRect (slice_index_or rects level no_rect)

-- how many places the bands before band n have
unfoldable pub places_in : Slicing → Size → ℕ → ℕ → ℕ → ℕ
places_in s size sx sy zero = 0
places_in s size sx sy (suc k) = places_in s size sx sy k + area (level_rect s size sx sy (level_of k))

-- The first n bands hold values of a list at the slice's places: a place has so many values there, of which it holds the
-- one that is counted from 0 by `from`.
pub record BandsTake (each from : ℕ) (s : Slicing) (size : Size) (sx sy n : ℕ) (values : List ℤ)
    (old new : BandStack) : Type 0 where
  pub same_depth : new.depth ≡ old.depth
  pub bands : (k : ℕ) → k < n → HoldsRect each from (level_rect s size sx sy (level_of k))
      (drop (each * places_in s size sx sy k) values) (numbered old k) (numbered new k)
