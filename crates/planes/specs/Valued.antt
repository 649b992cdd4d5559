-- Lists and planes of numbers of any width, as integers. Of 16, 32 and 64 bits a value is its integer, and `none` is 0.
use Rattle.std.specs.Prelude.{ℕ, ◌<◌, ℤ, List, length, slice_index_or}
use Rattle.planes.specs.Numbers.{Within}
use Rattle.planes.specs.Raster.{Raster, Grid, row_of}

-- the number at place i, where `none` stands past the end
abbrev pub valued : {X : Type 0} → (X → ℤ) → X → List X → ℕ → ℤ
valued value none xs i = value (slice_index_or xs i none)

-- each number has a magnitude of at most m
abbrev pub EachValued : {X : Type 0} → (X → ℤ) → X → ℕ → List X → Type 0
EachValued value none m xs = (i : ℕ) → i < length xs → Within m (valued value none xs i)

-- the number in row y and column x of a plane
abbrev pub grid_of : {X : Type 0} → (X → ℤ) → X → Raster X → Grid
grid_of value none p y x = value (slice_index_or (row_of p y) x none)
