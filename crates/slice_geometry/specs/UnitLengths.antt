-- The units of a stream by their lengths in bytes.
use Rattle.std.specs.Prelude.{◌≡◌, ℕ, ◌+◌, ◌^◌, ◌≤◌, List, [], ◌∷◌}
use Rattle.slice_geometry.specs.declared.unit_list.UnitShape.{UnitShape}
use Rattle.slice_geometry.specs.Slicing.{bytes_before}

-- the bytes of a unit: those before its first slice, and those of its slices
abbrev pub shape_length : UnitShape → ℕ
shape_length u = u.head + bytes_before u.a u.b u.slices

-- the limits of a unit, which are those of its slices
pub record IsUnitAllowed (u : UnitShape) : Type 0 where
  pub some : 1 ≤ u.b
  pub byte : u.b ≤ u.a
  pub count : u.slices ≤ 2 ^ 20
  pub share : bytes_before u.a u.b u.slices ≤ 2 ^ 28

-- the units stand one after another from a place on, and end at the total
abbrev pub ShapesInTurn : ℕ → List UnitShape → ℕ → Type 0
ShapesInTurn place [] total = total ≡ place
ShapesInTurn place (u ∷ units) total = (u.start ≡ place) × IsUnitAllowed u × ShapesInTurn (place + shape_length u) units total

-- units, the bytes that they have together, and for how many more there is room
pub record UnitShapesSeen : Type 0 where
  pub units : List UnitShape
  pub total : ℕ
  pub spare : ℕ
