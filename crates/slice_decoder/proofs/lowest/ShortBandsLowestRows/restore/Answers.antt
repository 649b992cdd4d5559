use Rattle.std.proofs.Common.{ℤ, ap}
use Rattle.planes.specs.Raster.{Raster, height}
use Rattle.slice_decoder.proofs.NarrowBands.{either-outside}
use Rattle.slice_decoder.proofs.ShortLowest.{short_lowest}
use Rattle.slice_decoder.proofs.ShortTakes.{lowest-restored, lowest-stopped, short-keeps, restored-cut}
use Rattle.slice_decoder.proofs.lowest.ShortBandsLowestRows.restore.Goals as goal

pub restore_narrow-requires-clause-x_inside : goal.restore_narrow-requires-clause-x_inside
restore_narrow-requires-clause-x_inside c = rw (← ap (λ (p : Raster ℤ). p.w) (short_lowest c.args.self.now)) c.requires.x_inside

pub restore_narrow-requires-clause-y_inside : goal.restore_narrow-requires-clause-y_inside
restore_narrow-requires-clause-y_inside c = rw (← ap (λ (p : Raster ℤ). height p) (short_lowest c.args.self.now)) c.requires.y_inside

pub restore_narrow-requires-clause-narrow : goal.restore_narrow-requires-clause-narrow
restore_narrow-requires-clause-narrow c = c.requires.sound.narrow

pub returns-clause-restored : goal.returns-clause-restored
returns-clause-restored c done = lowest-restored c.args.rect c.args.self.now c.restore_narrow.new.plane (c.restore_narrow.ensures.restored done)

pub returns-clause-stopped : goal.returns-clause-stopped
returns-clause-stopped c stop = lowest-stopped c.args.rect c.args.self.now c.restore_narrow.new.plane (c.restore_narrow.ensures.stopped stop)

pub returns-clause-keeps : goal.returns-clause-keeps
returns-clause-keeps c =
    short-keeps c.args.rect c.args.self.now c.restore_narrow.new.plane
    (either-outside c.args.rect c.args.self.now.lowest c.restore_narrow.new.plane c.restore_narrow.result c.restore_narrow.ensures.restored c.restore_narrow.ensures.stopped)

pub returns-clause-sound : goal.returns-clause-sound
returns-clause-sound c s size cut =
    restored-cut c.args.rect c.args.self.now c.restore_narrow.new.plane s size cut
    (either-outside c.args.rect c.args.self.now.lowest c.restore_narrow.new.plane c.restore_narrow.result c.restore_narrow.ensures.restored c.restore_narrow.ensures.stopped)
    c.restore_narrow.ensures.narrow
