use Rattle.slice_store.proofs.Rooms.{room_most}
use Rattle.slice_store.proofs.cuts.part_room.Goals as goal

pub returns-clause-most : goal.returns-clause-most
returns-clause-most c =
    let allowed = c.depth.ensures.allowed in
    rw (c.band_size-band.ensures, c.slices_y.ensures.value, c.slices_y-2.ensures.value) (room_most c.args.layout c.args.size c.args.level allowed.depth c.requires.size allowed.slices.some_down)
