-- Where slices lie in the subbands of a component, by tables.
use Rattle.std.specs.Prelude.{◌≡◌, ℕ, ◌+◌, ◌*◌, ◌/◌, ◌%◌, ◌<◌, List, length, get_or}
use Rattle.planes.specs.declared.Rect.{Rect}
use Rattle.slice_geometry.specs.declared.Size.{Size}
use Rattle.slice_geometry.specs.Slicing.{Slicing}
use Rattle.slice_geometry.specs.SliceOrder.{level_rect}

-- what contracts see of the tables: the layout, and the component's size
pub record SliceRectsSeen : Type 0 where
  pub slicing : Slicing
  pub size : Size

-- a rectangle without places
abbrev pub no_rect : Rect
no_rect = record { x0 = 0; x1 = 0; y0 = 0; y1 = 0 }

-- The rectangles of the slices in the top row, level by level.
pub record AreTop (s : Slicing) (size : Size) (rects : List Rect) : Type 0 where
  pub count : length rects ≡ (s.depth + 1) * s.slices_x
  pub each : (n : ℕ) → n < (s.depth + 1) * s.slices_x → get_or rects n no_rect ≡ level_rect s size (n % s.slices_x) 0 (n / s.slices_x)

-- And those of the slices in the left column.
pub record AreLeft (s : Slicing) (size : Size) (rects : List Rect) : Type 0 where
  pub count : length rects ≡ (s.depth + 1) * s.slices_y
  pub each : (n : ℕ) → n < (s.depth + 1) * s.slices_y → get_or rects n no_rect ≡ level_rect s size 0 (n % s.slices_y) (n / s.slices_y)

-- both tables
abbrev pub AreRects : Slicing → Size → List Rect → List Rect → Type 0
AreRects s size top left = AreTop s size top × AreLeft s size left
