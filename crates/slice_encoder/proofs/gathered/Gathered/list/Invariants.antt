use Rattle.std.proofs.Common.{◌≡◌, ◌+◌, ◌-◌, ◌≤◌, length, take}
use Rattle.std.specs.Prelude.{slice_index}
use Rattle.std.specs.List.{flat_map, range_with_len}
use Rattle.slice_encoder.specs.Gathering.{quantised_piece}
use Rattle.slice_encoder.specs.CodeTables.{places_of_values}
use Rattle.slice_encoder.proofs.gathered.Gathered.list.Given as goal

abbrev pub invariant-loop-k : goal.invariant-loop-k
invariant-loop-k l = record {
  same_length : length l.out ≡ length l.fn.out;
  same_places : length l.places ≡ length l.fn.places;
  some : 1 ≤ l.k;
  place : l.place + slice_index l.self.ends 0 ≡ slice_index l.self.ends (l.k - 1);
  so_far : take l.place l.out ≡ flat_map (quantised_piece l.self l.matrix l.index) (range_with_len 1 (l.k - 1));
  places : take l.place l.places ≡ places_of_values (take l.place l.out);
}
