use Rattle.std.proofs.Common.{◌≡◌, ◌∙◌, ap, true, arith}
use Rattle.planes.specs.declared.NarrowTrio.{NarrowTrio}
use Rattle.slice_geometry.proofs.Lengths.{padded_most}
use Rattle.picture_codec.specs.DecodedBands.{LateSeen}
use Rattle.picture_codec.proofs.TakenRows.{late-made}
use Rattle.picture_codec.proofs.late_narrow.LateNarrow.take.Goals as goal

pub invariant_of-self : goal.invariant_of-self
invariant_of-self c =
    let made : c.self.inside.is_made ≡ true = ap (λ (b : LateSeen NarrowTrio). b.is_made) c.self.view_is ∙ ap (λ (b : LateSeen NarrowTrio). b.is_made) c.make.ensures in
    late-made c.self.inside.late (record { luma = c.widen.new.bands; c1 = c.widen-2.new.bands; c2 = c.widen-3.new.bands }) c.self.inside.is_made made
    (record { luma = c.widen.ensures.within; c1 = c.widen-2.ensures.within; c2 = c.widen-3.ensures.within })

pub widen-requires-clause-room : goal.widen-requires-clause-room
widen-requires-clause-room c =
    let slices = c.args.short.now.luma.slices in
    let cut = c.shows.ensures.sound.cut in
    omega (arith, padded_most slices.slicing.depth slices.size.w cut.depth cut.size.width, c.requires.room)

pub widen-requires-2-clause-room : goal.widen-requires-2-clause-room
widen-requires-2-clause-room c =
    let slices = c.args.short.now.c1.slices in
    let cut = c.shows-2.ensures.sound.cut in
    omega (arith, padded_most slices.slicing.depth slices.size.w cut.depth cut.size.width, c.requires.room, c.widen.auto.row)

pub widen-requires-3-clause-room : goal.widen-requires-3-clause-room
widen-requires-3-clause-room c =
    let slices = c.args.short.now.c2.slices in
    let cut = c.shows-3.ensures.sound.cut in
    omega (arith, padded_most slices.slicing.depth slices.size.w cut.depth cut.size.width, c.requires.room, c.widen.auto.row, c.widen-2.auto.row)
