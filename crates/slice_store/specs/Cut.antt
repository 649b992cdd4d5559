-- How a component is cut into slices, and the tables that say so.
use Rattle.std.specs.Prelude.{◌≡◌, ℕ, ◌+◌, ◌*◌, ◌/◌, ◌%◌, ◌<◌, Bool, true, List, length, slice_index_or}
use Rattle.slice_geometry.specs.declared.Size.{Size}
use Rattle.slice_geometry.specs.Slicing.{Slicing}
use Rattle.slice_geometry.specs.SliceOrder.{places_before}
use Rattle.slice_store.specs.Places.{IsCut}
use Rattle.slice_store.specs.Sides.{left, top, AreEven}

-- how the picture is cut, and the size of the component
pub record Cut : Type 0 where
  pub slicing : Slicing
  pub size : Size

-- a list holds f, row by row
pub record IsTable (list : List ℕ) (f : ℕ → ℕ → ℕ) (rows columns : ℕ) : Type 0 where
  pub size : length list ≡ rows * columns
  pub each : (row column : ℕ) → row < rows → column < columns → slice_index_or list (row * columns + column) 0 ≡ f row column

-- the tables say where columns and rows of slices begin, and where columns have one width
pub record AreTables (c : Cut) (lefts tops : List ℕ) (is_even : Bool) : Type 0 where
  pub cut : IsCut c.slicing c.size
  pub left : IsTable lefts (left c.slicing c.size) (c.slicing.depth + 1) (c.slicing.slices_x + 1)
  pub top : IsTable tops (top c.slicing c.size) (c.slicing.depth + 1) (c.slicing.slices_y + 1)
  pub even : is_even ≡ true → AreEven c.slicing c.size

-- a table that says, for each level of each row of slices, how many of each slice's numbers come before those of that level
abbrev pub AreUnders : List ℕ → Slicing → Size → Type 0
AreUnders list s size = IsTable list (λ row sx. places_before s size sx (row / (s.depth + 1)) (row % (s.depth + 1)) 1) (s.slices_y * (s.depth + 1)) s.slices_x
