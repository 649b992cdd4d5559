use Rattle.std.proofs.Common.{◌≡◌, ◌-◌, ◌*◌, ◌≤◌}
use Rattle.std.specs.List.{sum_by, range_with_len}
use Rattle.planes.specs.Raster.{at}
use Rattle.quant_factors.specs.Factors.{forward_of}
use Rattle.slice_encoder.specs.LowNeeds.{counted_bits}
use Rattle.slice_encoder.proofs.bounding.bits_in_row.Given as goal

abbrev pub invariant-loop-x : goal.invariant-loop-x
invariant-loop-x l = record {
  so_far : l.bits ≡ sum_by (λ x. counted_bits (forward_of (at l.fn.coefficients l.fn.y x) l.fn.index)) (range_with_len l.fn.rect.x0 (l.x - l.fn.rect.x0));
  few : l.bits ≤ 74 * (l.x - l.fn.rect.x0);
}
