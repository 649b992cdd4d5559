use Rattle.std.proofs.Common.{◌≡◌, ◌∙◌, ℕ, List, length, ap, arith}
use Rattle.std.specs.Prelude.{slice_index}
use Rattle.slice_encoder.specs.Gathering.{outside_of, gathered_pairs}
use Rattle.slice_encoder.specs.Sizes.{size_values, turn_at}
use Rattle.slice_encoder.proofs.CutLists.{short_places}
use Rattle.slice_encoder.proofs.Gathers.{written_over}
use Rattle.slice_encoder.proofs.SmallValues.{pairs_small}
use Rattle.slice_encoder.proofs.ShortSigns.{two_count, two_room, two_signed, same_outside, signs_listed, as_many_sizes}
use Rattle.slice_encoder.proofs.listing.list_colour.Goals as goal

pub quantise-requires-clause-count : goal.quantise-requires-clause-count
quantise-requires-clause-count c =
    let a = c.args in
    omega (arith, c.requires.count, as_many_sizes (size_values a.gathered.now.colour_sizes a.index) (gathered_pairs a.gathered.now.c1 a.gathered.now.c2 a.matrix.now a.index) (c.requires.magnitudes a.index c.requires.index))

pub sign_pairs-requires-clause-count : goal.sign_pairs-requires-clause-count
sign_pairs-requires-clause-count c =
    let a = c.args in
    omega (arith, c.requires.count, two_count a.gathered.now.c1 a.gathered.now.c2 a.matrix.now a.index c.depth.ensures.sound c.depth-2.ensures.sound c.requires.depth c.requires.ends)

pub sign_pairs-requires-clause-same : goal.sign_pairs-requires-clause-same
sign_pairs-requires-clause-same c =
    let a = c.args in
    same_outside a.gathered.now.c1 a.gathered.now.c2 a.matrix.now a.index c.depth.ensures.sound c.depth-2.ensures.sound c.requires.depth c.requires.ends

pub sign_pairs-requires-clause-sizes : goal.sign_pairs-requires-clause-sizes
sign_pairs-requires-clause-sizes c =
    let a = c.args in
    let sound = c.depth.ensures.sound in
    let other = c.depth-2.ensures.sound in
    let len : ℕ = a.scaled.now.sizes.len in
    let whole : len ≡ length c.quantise.new.out = omega (arith, c.quantise.auto.out, c.deref_mut.ensures.len) in
    let now : c.deref.result.now ≡ c.quantise.new.out = c.deref.ensures.value ∙ written_over len c.quantise.new.out _ whole in
    omega (arith, c.requires.count, c.requires.sizes, two_room a.gathered.now.c1 a.gathered.now.c2 a.matrix.now a.index sound other c.requires.depth c.requires.ends, whole, ap (λ (t : List ℕ). length t) now)

pub sign_pairs-requires-clause-room : goal.sign_pairs-requires-clause-room
sign_pairs-requires-clause-room c =
    let a = c.args in
    let sound = c.depth.ensures.sound in
    let other = c.depth-2.ensures.sound in
    omega (arith, c.requires.count, c.requires.room, two_room a.gathered.now.c1 a.gathered.now.c2 a.matrix.now a.index sound other c.requires.depth c.requires.ends)

pub sign_pairs-requires-clause-room_places : goal.sign_pairs-requires-clause-room_places
sign_pairs-requires-clause-room_places c =
    let a = c.args in
    let sound = c.depth.ensures.sound in
    let other = c.depth-2.ensures.sound in
    omega (arith, c.requires.count, c.requires.room_places, two_room a.gathered.now.c1 a.gathered.now.c2 a.matrix.now a.index sound other c.requires.depth c.requires.ends)

pub returns-then-quantise-clause-listed : goal.returns-then-quantise-clause-listed
returns-then-quantise-clause-listed c =
    let a = c.args in
    let g = a.gathered.now.c1 in
    let h = a.gathered.now.c2 in
    let sound = c.depth.ensures.sound in
    let other = c.depth-2.ensures.sound in
    let len : ℕ = a.scaled.now.sizes.len in
    let whole : len ≡ length c.quantise.new.out = omega (arith, c.quantise.auto.out, c.deref_mut.ensures.len) in
    let now : c.deref.result.now ≡ c.quantise.new.out = c.deref.ensures.value ∙ written_over len c.quantise.new.out _ whole in
    signs_listed (turn_at (outside_of g) (outside_of h)) (gathered_pairs g h a.matrix.now a.index) (size_values a.gathered.now.colour_sizes a.index) c.sign_pairs.new.out c.deref.result.now a.count (c.requires.magnitudes a.index c.requires.index) c.requires.count
    (omega (arith, c.requires.count, c.requires.room, two_room g h a.matrix.now a.index sound other c.requires.depth c.requires.ends, two_count g h a.matrix.now a.index sound other c.requires.depth c.requires.ends, c.sign_pairs.auto.out))
    (two_signed g h a.matrix.now a.index sound other c.requires.depth c.requires.ends)
    (λ p lt. ap (λ (t : List ℕ). slice_index t p) now ∙ c.quantise.ensures c.if-quantise.true p lt)
    c.sign_pairs.ensures.values

pub returns-then-quantise-clause-small : goal.returns-then-quantise-clause-small
returns-then-quantise-clause-small c = pairs_small c.args.matrix.now c.args.index c.requires.index c.args.gathered.now.c1 c.args.gathered.now.c2 c.depth.ensures.sound c.depth-2.ensures.sound

pub returns-else-quantise-clause-places : goal.returns-else-quantise-clause-places
returns-else-quantise-clause-places c = short_places c.list_pair.new.out (gathered_pairs c.args.gathered.now.c1 c.args.gathered.now.c2 c.args.matrix.now c.args.index) c.list_pair.new.places c.list_pair.result c.args.count c.list_pair.ensures.listed c.list_pair.ensures.places c.requires.count
