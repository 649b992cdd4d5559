use Rattle.std.proofs.Common.{◌≡◌, ◌*◌, length, take}
use Rattle.slice_encoder.specs.Gathering.{quantised, in_turn}
use Rattle.slice_encoder.specs.CodeTables.{places_of_values}
use Rattle.slice_encoder.proofs.gathered.quantise_pair.Given as goal

abbrev pub invariant-loop-place : goal.invariant-loop-place
invariant-loop-place l = record {
  same_length : length l.out ≡ length l.fn.out;
  same_places : length l.places ≡ length l.fn.places;
  so_far : take (2 * l.place) l.out ≡ in_turn (quantised l.index (take l.place l.first)) (quantised l.index (take l.place l.second));
  places : take (2 * l.place) l.places ≡ places_of_values (take (2 * l.place) l.out);
}
