use Rattle.std.proofs.Common.{sym, arith}
use Rattle.planes.proofs.RasterLemmas.{same_raster}
use Rattle.slice_store.proofs.short_bands.copy_plane.Goals as goal

pub returns : goal.returns
returns c =
    let l = c.loop-y in
    same_raster l.to c.args.from.now (sym l.invariant.same_width) (sym l.invariant.same_height)
    (λ y lt. l.invariant.rows y (omega (arith, lt, l.invariant.same_height, c.requires.same_height, l.auto.y-end, c.h-y-end.ensures.value, c.loop-y-test.false)))
