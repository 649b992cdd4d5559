use Rattle.std.proofs.Common.{◌≡◌, ◌*◌, ◌^◌, ◌≤◌}
use Rattle.slice_encoder.specs.Counted.{component_of}
use Rattle.slice_encoder.specs.LowNeeds.{bits_to}
use Rattle.slice_encoder.proofs.bounding.high_bits.Given as goal

abbrev pub invariant-loop-below : goal.invariant-loop-below
invariant-loop-below l = record {
  so_far : l.bits ≡ bits_to (component_of l.fn.component) l.fn.index l.fn.sx l.fn.sy l.below;
  few : l.bits ≤ 2 ^ 36 * l.below;
}
