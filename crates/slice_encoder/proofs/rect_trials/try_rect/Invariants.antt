use Rattle.std.proofs.Common.{◌≡◌, ◌+◌, ◌*◌, ◌≤◌}
use Rattle.slice_geometry.specs.SliceOrder.{number_in}
use Rattle.slice_encoder.specs.RectTrials.{grid_in}
use Rattle.slice_encoder.proofs.RectSoFar.{TriedSoFar, ListedSoFar}
use Rattle.slice_encoder.proofs.rect_trials.try_rect.Given as goal

abbrev pub invariant-loop-y : goal.invariant-loop-y
invariant-loop-y l = record {
  number : l.number ≡ number_in l.rect l.y l.rect.x0;
  place : l.place ≡ l.from + l.step * number_in l.rect l.y l.rect.x0;
  tried : TriedSoFar (grid_in l.rect l.coefficients) l.index l.rect l.y l.rect.x0 l.fn.kept l.kept;
  listed : ListedSoFar (grid_in l.rect l.coefficients) l.index l.rect l.y l.rect.x0 l.kept l.from l.step l.fn.out l.out;
}

abbrev pub invariant-loop-x : goal.invariant-loop-x
invariant-loop-x l = record {
  none : l.rect.x1 ≤ l.rect.x0 → l.x ≡ l.rect.x0;
  number : l.number ≡ number_in l.rect l.y l.x;
  place : l.place ≡ l.from + l.step * number_in l.rect l.y l.x;
  tried : TriedSoFar (grid_in l.rect l.coefficients) l.index l.rect l.y l.x l.fn.kept l.kept;
  listed : ListedSoFar (grid_in l.rect l.coefficients) l.index l.rect l.y l.x l.kept l.from l.step l.fn.out l.out;
}
