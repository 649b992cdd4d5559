use Rattle.std.proofs.Common.{◌≡◌, ◌∙◌, ◌+◌, ◌*◌, ◌^◌, ◌<◌, length, get_or, ap, arith, pos, ℤ, to_z, of_z, w32}
use Rattle.std.proofs.lemmas.Int.{to_z-of_z}
use Rattle.std.proofs.lemmas.List.{length-set}
use Rattle.std.proofs.lemmas.List.Elements.{All-get_or}
use Rattle.planes.specs.Numbers.{Within}
use Rattle.quant_factors.specs.Factors.{forward_of}
use Rattle.slice_encoder.proofs.Gathers.{pair_more}
use Rattle.slice_encoder.proofs.PairPlaces.{places_two_more}
use Rattle.slice_encoder.proofs.Near.{fits_narrow}
use Rattle.slice_encoder.proofs.gathered.quantise_pair.Goals as goal

pub loop-place-preserved : goal.loop-place-preserved
loop-place-preserved c =
    let a = c.args in
    let l = c.loop-place in
    let one : ℤ = get_or a.first.now l.place (pos 0) in
    let two : ℤ = get_or a.second.now l.place (pos 0) in
    let v = to_z w32 (of_z w32 c.quantised_number-one.result) in
    let w = to_z w32 (of_z w32 c.quantised_number-two.result) in
    let one_is : to_z w32 (of_z w32 one) ≡ one = fits_narrow one (All-get_or (Within (2 ^ 27)) a.first.now l.place (pos 0) (omega arith) c.requires.first_small) in
    let two_is : to_z w32 (of_z w32 two) ≡ two = fits_narrow two (All-get_or (Within (2 ^ 27)) a.second.now l.place (pos 0) (omega (arith, c.requires.same)) c.requires.second_small) in
    let v_is : v ≡ c.quantised_number-one.result = to_z-of_z w32 c.quantised_number-one.result (record { sfits = c.quantised_number-one.type_inv }) in
    let w_is : w ≡ c.quantised_number-two.result = to_z-of_z w32 c.quantised_number-two.result (record { sfits = c.quantised_number-two.type_inv }) in
    let room : 2 * l.place + 1 < length l.out = omega (arith, l.invariant.same_length, c.requires.room) in
    let room_places : 2 * l.place + 1 < length l.places = omega (arith, l.invariant.same_places, c.requires.room_places) in
    record {
      same_length = length-set _ (2 * l.place + 1) w ∙ length-set l.out (2 * l.place) v ∙ l.invariant.same_length;
      same_places = length-set _ (2 * l.place + 1) _ ∙ length-set l.places (2 * l.place) _ ∙ l.invariant.same_places;
      so_far =
          pair_more l.out a.first.now a.second.now a.index l.place v w (pos 0) room (omega arith) c.requires.same
          (v_is ∙ c.quantised_number-one.ensures ∙ ap (λ (t : ℤ). forward_of t a.index) one_is)
          (w_is ∙ c.quantised_number-two.ensures ∙ ap (λ (t : ℤ). forward_of t a.index) two_is)
          l.invariant.so_far;
      places = places_two_more l.out l.places l.place v w c.pair_place.result c.pair_place-in-loop-place.result c.pair_place.ensures c.pair_place-in-loop-place.ensures room room_places l.invariant.places;
    }
