use Rattle.std.proofs.Common.{◌≡◌, ℕ, ◌*◌, ◌<◌, length, take, get_or, pos}
use Rattle.std.specs.Prelude.{slice_index}
use Rattle.quant_factors.specs.Factors.{signed}
use Rattle.slice_encoder.specs.CodeTables.{places_of_values}
use Rattle.slice_encoder.specs.Sizes.{turn_at}
use Rattle.slice_encoder.proofs.listing.put_sign_pairs.Given as goal

abbrev pub invariant-loop-place : goal.invariant-loop-place
invariant-loop-place l = record {
  same_length : length l.out ≡ length l.fn.out;
  same_places : length l.places ≡ length l.fn.places;
  values : (p : ℕ) → p < 2 * l.place → get_or l.out p (pos 0) ≡ signed (turn_at l.first l.second p) (slice_index l.sizes p);
  places : take (2 * l.place) l.places ≡ places_of_values (take (2 * l.place) l.out);
}
