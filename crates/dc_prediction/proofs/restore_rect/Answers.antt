use Rattle.std.proofs.Common.{◌*◌, arith}
use Rattle.bit_codes.specs.declared.TheConstants.{MAX_MAGNITUDE}
use Rattle.planes.specs.Raster.{at}
use Rattle.dc_prediction.proofs.Widths.{wide_may, wide_restored, restores_rect}
use Rattle.dc_prediction.proofs.restore_rect.Goals as goal

pub restore_of-requires-clause-may : goal.restore_of-requires-clause-may
restore_of-requires-clause-may c = wide_may c.args.rect c.args.plane.now c.requires

pub returns : goal.returns
returns c =
    let q = c.restore_of.ensures in
    restores_rect (λ d. d * MAX_MAGNITUDE) (λ y x. omega arith) c.args.rect c.args.plane.now c.restore_of.new.plane q.same_width q.same_height
    (wide_restored c.args.rect (at c.args.plane.now) (at c.restore_of.new.plane) c.restore_of.result q.restored q.stopped)
