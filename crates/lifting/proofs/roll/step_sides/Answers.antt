use Rattle.std.proofs.Common.{◌∙◌}
use Rattle.lifting.specs.Turns.{between}
use Rattle.lifting.proofs.TwoSides.{two_sides}
use Rattle.lifting.proofs.roll.step_sides.Goals as goal

pub returns : goal.returns
returns G c =
    let row = between G.T.Number.value G.T.Number.none c.args.wavelet c.args.kind in
    two_sides G.T.Number.value G.T.Number.none c.args.w c.step_front.new.dst c.step_front-2.new.dst (row c.args.left.now) (row c.args.right.now)
    (c.step_front.auto.dst ∙ c.split_at_mut-front.ensures.front_len) c.step_front.ensures c.step_front-2.ensures
