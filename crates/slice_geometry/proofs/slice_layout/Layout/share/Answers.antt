use Rattle.std.proofs.Common.{◌*◌, arith, ap}
use Rattle.slice_geometry.specs.Slicing.{slice_count}
use Rattle.slice_geometry.proofs.Shares.{share_most}
use Rattle.slice_geometry.proofs.slice_layout.Layout.share.Goals as goal

pub overflow_cast-result : goal.overflow_cast-result
overflow_cast-result c =
    rw (c.from-n.ensures, c.from-a.ensures, c.from-b.ensures)
    (omega (arith, share_most c.self.inside.a c.self.inside.b c.args.n (c.self.inside.slices_x * c.self.inside.slices_y) c.self.invariant.share.some (omega (arith, c.requires, ap slice_count c.self.view_is))))
