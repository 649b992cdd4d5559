-- What is true of the fields of `UnitShapes`.
use Rattle.std.specs.Prelude.{◌+◌, ◌^◌, ◌≤◌}
use Rattle.std.specs.Vec.{vec_len, vec_capacity}
use Rattle.slice_geometry.specs.UnitLengths.{ShapesInTurn}
use Rattle.slice_geometry.specs.declared.unit_list.UnitShapes.TheInside.{Inside}

-- what holds of the units taken: they stand in turn, the stream isn't too long, and there is room for those to come
pub record AreShapesSound (u : Inside) : Type 0 where
  pub in_turn : ShapesInTurn 0 u.units.items u.total
  pub most : u.total ≤ 2 ^ 40
  pub room : vec_len u.units + u.spare ≤ vec_capacity u.units
