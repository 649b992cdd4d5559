use Rattle.std.proofs.Common.{◌^◌, arith}
use Rattle.dc_prediction.proofs.Widths.{narrow_may, narrow_after, is_stopped, restores_rect}
use Rattle.dc_prediction.proofs.restore_narrow.Goals as goal

pub restore_of-requires-clause-may : goal.restore_of-requires-clause-may
restore_of-requires-clause-may c = narrow_may c.args.rect c.args.plane.now c.requires.x_inside c.requires.y_inside c.requires.narrow

pub returns-clause-narrow : goal.returns-clause-narrow
returns-clause-narrow c =
    let q = c.restore_of.ensures in
    narrow_after c.args.rect c.args.plane.now c.restore_of.new.plane q.same_width q.same_height c.restore_of.result q.restored q.stopped c.requires.narrow

pub returns-clause-restored : goal.returns-clause-restored
returns-clause-restored c good =
    let q = c.restore_of.ensures in
    restores_rect (λ _. 2 ^ 18) (λ y x. omega arith) c.args.rect c.args.plane.now c.restore_of.new.plane q.same_width q.same_height (q.restored good)

pub returns-clause-stopped : goal.returns-clause-stopped
returns-clause-stopped c stopped =
    let q = c.restore_of.ensures in
    is_stopped c.args.rect c.args.plane.now c.restore_of.new.plane q.same_width q.same_height (q.stopped stopped)
