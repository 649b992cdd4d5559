use Rattle.std.proofs.Common.{ℕ, ◌+◌, ◌*◌, ◌^◌, ◌<◌, ◌≤◌}
use Rattle.slice_geometry.specs.SliceOrder.{places_to}
use Rattle.slice_encoder.proofs.room.most_places.Given as goal

abbrev pub invariant-loop-level : goal.invariant-loop-level
invariant-loop-level l = record {
  most : (sx sy : ℕ) → sx < l.layout.slices_x → sy < l.layout.slices_y → places_to l.layout l.size sx sy l.level ≤ l.most;
  few : l.most ≤ 2 ^ 27 + l.level * (3 * 2 ^ 27);
}
