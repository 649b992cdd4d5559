use Rattle.std.proofs.Common.{◌≡◌, ◌+◌, ◌*◌, ◌^◌, ◌≤◌}
use Rattle.slice_geometry.specs.SliceOrder.{places_to}
use Rattle.slice_decoder.proofs.levels.count_places.Given as goal

abbrev pub invariant-loop-level : goal.invariant-loop-level
invariant-loop-level l = record {
  count : l.count ≡ places_to l.job.layout.now l.job.size l.job.place.sx l.job.place.sy l.level;
  few : l.count ≤ 2 ^ 26 + l.level * (3 * 2 ^ 26);
}
