-- A level of synthesis in place: the rows of a pair, taken apart.
use Rattle.std.specs.Prelude.{◌≡◌, ℕ, ℤ, ◌*◌, ◌/◌, ◌%◌, ◌<◌, List}
use Rattle.lifting.specs.Places.{side_place, row_grid}
use Rattle.lifting.specs.Transform.{Grid}

-- Rows 2y and 2y + 1 of a grid stand in a ring of four rows of 2w places, row j in row j % 4 of it, their even places first.
abbrev pub HasPair : {X : Type 0} → (X → ℤ) → X → ℕ → ℕ → Grid → List X → Type 0
HasPair value none w y g ring = (j x : ℕ) → j / 2 ≡ y → x < 2 * w → row_grid value none (2 * w) ring (j % 4) x ≡ g j (side_place w x)
