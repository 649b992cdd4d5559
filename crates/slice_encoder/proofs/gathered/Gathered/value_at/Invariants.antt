use Rattle.std.proofs.Common.{◌≡◌, ◌+◌, ◌-◌, ◌*◌, ◌≤◌, get_or, pos}
use Rattle.std.specs.List.{flat_map, range_with_len}
use Rattle.slice_encoder.specs.Gathering.{quantised_piece, gathered_values}
use Rattle.slice_encoder.proofs.gathered.Gathered.value_at.Given as goal

abbrev pub invariant-loop-k : goal.invariant-loop-k
invariant-loop-k l = record {
  some : 1 ≤ l.k;
  same : get_or (gathered_values l.self l.matrix l.index) l.place (pos 0) ≡ get_or (flat_map (quantised_piece l.self l.matrix l.index) (range_with_len l.k (3 * l.self.depth + 1 - l.k))) l.left (pos 0);
}
