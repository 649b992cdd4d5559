-- One more unit.
use Rattle.std.proofs.Common.{◌≡◌, ℕ, ◌+◌, List, [], ◌∷◌, ◌++◌, ap, ◌∙◌}
use Rattle.slice_geometry.specs.declared.unit_list.UnitShape.{UnitShape}
use Rattle.slice_geometry.specs.UnitLengths.{IsUnitAllowed, ShapesInTurn, shape_length}

pub in_turn-push : (place : ℕ) (units : List UnitShape) (total : ℕ) (unit : UnitShape) → ShapesInTurn place units total → unit.start ≡ total → IsUnitAllowed unit → ShapesInTurn place (units ++ unit ∷ []) (total + shape_length unit)
in_turn-push place [] total unit in_turn starts allowed = (starts ∙ in_turn, allowed, ap (λ n. n + shape_length unit) in_turn)
in_turn-push place (u ∷ units) total unit in_turn starts allowed =
    (in_turn.0, in_turn.1, in_turn-push (place + shape_length u) units total unit in_turn.2 starts allowed)
