-- What the store of a component's coefficients shows: how the slices lie, and all numbers.
use Rattle.std.specs.Prelude.{ℕ, List}
use Rattle.slice_geometry.specs.declared.Size.{Size}
use Rattle.slice_geometry.specs.Slicing.{Slicing}

-- how the picture is cut, the size of the component, for how many rows of slices there is room, where each of these strips
-- starts and the last ends, and all numbers
pub record Store (X : Type 0) : Type 0 where
  pub slicing : Slicing
  pub size : Size
  pub strips : ℕ
  pub starts : List ℕ
  pub numbers : List X
