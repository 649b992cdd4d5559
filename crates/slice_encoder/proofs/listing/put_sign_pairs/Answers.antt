use Rattle.std.proofs.Common.{◌≡◌, ◌∙◌, ◌+◌, ◌*◌, ◌^◌, ◌<◌, length, get_or, ap, arith, pos, ℤ, to_z, of_z, w32}
use Rattle.std.specs.Prelude.{slice_index}
use Rattle.std.proofs.lemmas.Int.{to_z-of_z}
use Rattle.std.proofs.lemmas.List.{length-set}
use Rattle.std.proofs.lemmas.List.Elements.{All-get_or}
use Rattle.planes.specs.Numbers.{Within}
use Rattle.quant_factors.specs.Factors.{signed}
use Rattle.slice_encoder.proofs.Near.{fits_narrow}
use Rattle.slice_encoder.proofs.PairPlaces.{places_two_more}
use Rattle.slice_encoder.proofs.ShortSigns.{signs_put}
use Rattle.slice_encoder.proofs.listing.put_sign_pairs.Goals as goal

pub loop-place-preserved : goal.loop-place-preserved
loop-place-preserved c =
    let a = c.args in
    let l = c.loop-place in
    let one : ℤ = get_or a.first.now l.place (pos 0) in
    let two : ℤ = get_or a.second.now l.place (pos 0) in
    let v = to_z w32 (of_z w32 c.with_sign-one.result) in
    let w = to_z w32 (of_z w32 c.with_sign-two.result) in
    let one_is : to_z w32 (of_z w32 one) ≡ one = fits_narrow one (All-get_or (Within (2 ^ 27)) a.first.now l.place (pos 0) (omega arith) c.requires.first_small) in
    let two_is : to_z w32 (of_z w32 two) ≡ two = fits_narrow two (All-get_or (Within (2 ^ 27)) a.second.now l.place (pos 0) (omega (arith, c.requires.same)) c.requires.second_small) in
    let v_is : v ≡ c.with_sign-one.result = to_z-of_z w32 c.with_sign-one.result (record { sfits = c.with_sign-one.type_inv }) in
    let w_is : w ≡ c.with_sign-two.result = to_z-of_z w32 c.with_sign-two.result (record { sfits = c.with_sign-two.type_inv }) in
    let room : 2 * l.place + 1 < length l.out = omega (arith, l.invariant.same_length, c.requires.room) in
    let room_places : 2 * l.place + 1 < length l.places = omega (arith, l.invariant.same_places, c.requires.room_places) in
    record {
      same_length = length-set _ (2 * l.place + 1) w ∙ length-set l.out (2 * l.place) v ∙ l.invariant.same_length;
      same_places = length-set _ (2 * l.place + 1) _ ∙ length-set l.places (2 * l.place) _ ∙ l.invariant.same_places;
      values = signs_put a.first.now a.second.now a.sizes.now l.out l.place v w room (v_is ∙ c.with_sign-one.ensures ∙ ap (λ (z : ℤ). signed z (slice_index a.sizes.now (2 * l.place))) one_is) (w_is ∙ c.with_sign-two.ensures ∙ ap (λ (z : ℤ). signed z (slice_index a.sizes.now (2 * l.place + 1))) two_is) l.invariant.values;
      places = places_two_more l.out l.places l.place v w c.pair_place.result c.pair_place-in-loop-place.result c.pair_place.ensures c.pair_place-in-loop-place.ensures room room_places l.invariant.places;
    }
