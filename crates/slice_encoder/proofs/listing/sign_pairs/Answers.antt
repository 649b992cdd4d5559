use Rattle.std.proofs.Common.{ℕ, ◌*◌, ◌≤◌, length, drop, arith}
use Rattle.std.proofs.lemmas.List.{length-take}
use Rattle.slice_encoder.specs.Gathering.{outside_of}
use Rattle.slice_encoder.proofs.ShortSigns.{front_places}
use Rattle.slice_encoder.proofs.listing.sign_pairs.Goals as goal

pub returns-clause-places : goal.returns-clause-places
returns-clause-places c =
    let a = c.args in
    let n : ℕ = 2 * c.div_ceil-half.result in
    let fits : n ≤ 2 * length (outside_of a.first.now) = omega (arith, c.div_ceil-half.ensures, c.requires.count) in
    front_places a.count n c.put_sign_pairs.new.out c.put_sign_pairs.new.places (drop n a.out.now) (drop n a.places.now) (omega (arith, c.div_ceil-half.ensures))
    (omega (arith, fits, c.requires.room, c.put_sign_pairs.auto.out, length-take n a.out.now)) (omega (arith, fits, c.requires.room_places, c.put_sign_pairs.auto.places, length-take n a.places.now)) c.put_sign_pairs.ensures.places
