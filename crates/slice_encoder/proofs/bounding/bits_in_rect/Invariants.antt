use Rattle.std.proofs.Common.{◌≡◌, ◌-◌, ◌*◌, ◌^◌, ◌≤◌}
use Rattle.std.specs.List.{sum_by, range_with_len}
use Rattle.planes.specs.Raster.{at}
use Rattle.slice_encoder.specs.LowNeeds.{row_bits}
use Rattle.slice_encoder.proofs.bounding.bits_in_rect.Given as goal

abbrev pub invariant-loop-y : goal.invariant-loop-y
invariant-loop-y l = record {
  so_far : l.bits ≡ sum_by (row_bits (at l.fn.coefficients) l.fn.index l.fn.rect) (range_with_len l.fn.rect.y0 (l.y - l.fn.rect.y0));
  few : l.bits ≤ 2 ^ 20 * (l.y - l.fn.rect.y0);
}
