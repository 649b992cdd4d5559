use Rattle.std.proofs.Common.{◌-◌, ◌*◌, ◌^◌, ◌≤◌}
use Rattle.std.specs.List.{flat_map, range_with_len}
use Rattle.slice_encoder.specs.Looks.{IsLook}
use Rattle.slice_encoder.specs.Sizes.{quantised_sizes}
use Rattle.slice_encoder.proofs.sizes.Sizes.look_by.Given as goal

abbrev pub invariant-loop-k : goal.invariant-loop-k
invariant-loop-k G l = record {
  front_few : l.front ≤ 3 * l.self.depth;
  look : IsLook l.look (flat_map (quantised_sizes l.self l.index) (range_with_len 1 (l.k - 1)));
  some : l.look.some ≤ l.k * 2 ^ 40;
  more : l.look.more ≤ l.k * 2 ^ 45;
}
