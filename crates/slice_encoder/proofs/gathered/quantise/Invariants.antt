use Rattle.std.proofs.Common.{◌≡◌, length, take}
use Rattle.slice_encoder.specs.Gathering.{quantised}
use Rattle.slice_encoder.specs.CodeTables.{places_of_values}
use Rattle.slice_encoder.proofs.gathered.quantise.Given as goal

abbrev pub invariant-loop-place : goal.invariant-loop-place
invariant-loop-place l = record {
  same_length : length l.out ≡ length l.fn.out;
  same_places : length l.places ≡ length l.fn.places;
  so_far : take l.place l.out ≡ quantised l.index (take l.place l.coefficients);
  places : take l.place l.places ≡ places_of_values (take l.place l.out);
}
