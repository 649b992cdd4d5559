use Rattle.std.proofs.Common.{◌≡◌, ◌∙◌, ℕ, List, length, get_or, ap, arith, pos}
use Rattle.std.specs.Prelude.{slice_index}
use Rattle.slice_encoder.specs.Gathering.{outside_of, gathered_values}
use Rattle.slice_encoder.specs.Sizes.{size_values}
use Rattle.slice_encoder.proofs.CutLists.{short_places}
use Rattle.slice_encoder.proofs.Gathers.{written_over}
use Rattle.slice_encoder.proofs.SmallValues.{values_small}
use Rattle.slice_encoder.proofs.ShortSigns.{one_count, one_room, one_signed, signs_listed, as_many_sizes}
use Rattle.slice_encoder.proofs.listing.list_luma.Goals as goal

pub quantise-requires-clause-count : goal.quantise-requires-clause-count
quantise-requires-clause-count c =
    let a = c.args in
    omega (arith, c.requires.count, as_many_sizes (size_values a.gathered.now.luma_sizes a.index) (gathered_values a.gathered.now.luma a.matrix.now a.index) (c.requires.magnitudes a.index c.requires.index))

pub sign-requires-clause-count : goal.sign-requires-clause-count
sign-requires-clause-count c =
    let a = c.args in
    omega (arith, c.requires.count, one_count a.gathered.now.luma a.matrix.now a.index c.depth-depth.ensures.sound)

pub sign-requires-clause-sizes : goal.sign-requires-clause-sizes
sign-requires-clause-sizes c =
    let a = c.args in
    let sound = c.depth-depth.ensures.sound in
    let len : ℕ = a.scaled.now.sizes.len in
    let whole : len ≡ length c.quantise.new.out = omega (arith, c.quantise.auto.out, c.deref_mut.ensures.len) in
    let now : c.deref.result.now ≡ c.quantise.new.out = c.deref.ensures.value ∙ written_over len c.quantise.new.out _ whole in
    omega (arith, c.requires.count, c.requires.sizes, one_room a.gathered.now.luma a.matrix.now a.index sound, whole, ap (λ (t : List ℕ). length t) now)

pub sign-requires-clause-room : goal.sign-requires-clause-room
sign-requires-clause-room c =
    let a = c.args in
    let sound = c.depth-depth.ensures.sound in
    omega (arith, c.requires.count, c.requires.room, one_room a.gathered.now.luma a.matrix.now a.index sound)

pub sign-requires-clause-room_places : goal.sign-requires-clause-room_places
sign-requires-clause-room_places c =
    let a = c.args in
    let sound = c.depth-depth.ensures.sound in
    omega (arith, c.requires.count, c.requires.room_places, one_room a.gathered.now.luma a.matrix.now a.index sound)

pub returns-then-quantise-clause-listed : goal.returns-then-quantise-clause-listed
returns-then-quantise-clause-listed c =
    let a = c.args in
    let g = a.gathered.now.luma in
    let sound = c.depth-depth.ensures.sound in
    let len : ℕ = a.scaled.now.sizes.len in
    let whole : len ≡ length c.quantise.new.out = omega (arith, c.quantise.auto.out, c.deref_mut.ensures.len) in
    let now : c.deref.result.now ≡ c.quantise.new.out = c.deref.ensures.value ∙ written_over len c.quantise.new.out _ whole in
    signs_listed (λ p. get_or (outside_of g) p (pos 0)) (gathered_values g a.matrix.now a.index) (size_values a.gathered.now.luma_sizes a.index) c.sign.new.out c.deref.result.now a.count (c.requires.magnitudes a.index c.requires.index) c.requires.count
    (omega (arith, c.requires.count, c.requires.room, one_room g a.matrix.now a.index sound, c.sign.auto.out))
    (one_signed g a.matrix.now a.index sound)
    (λ p lt. ap (λ (t : List ℕ). slice_index t p) now ∙ c.quantise.ensures c.if-quantise.true p lt)
    c.sign.ensures.values

pub returns-then-quantise-clause-small : goal.returns-then-quantise-clause-small
returns-then-quantise-clause-small c = values_small c.args.matrix.now c.args.index c.requires.index c.args.gathered.now.luma c.depth-depth.ensures.sound

pub returns-else-quantise-clause-places : goal.returns-else-quantise-clause-places
returns-else-quantise-clause-places c = short_places c.list.new.out (gathered_values c.args.gathered.now.luma c.args.matrix.now c.args.index) c.list.new.places c.list.result c.args.count c.list.ensures.listed c.list.ensures.places c.requires.count
