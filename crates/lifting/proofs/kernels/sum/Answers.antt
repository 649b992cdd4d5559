use Rattle.std.proofs.Common.{◌+ℤ◌}
use Rattle.lifting.proofs.Growth.{more_within, twofold_sum}
use Rattle.lifting.proofs.kernels.sum.Goals as goal

pub returns : goal.returns
returns g c =
    let t = g.met.T.Number in
    let a = g.T.Number.value c.args.a in
    let b = g.T.Number.value c.args.b in
    let is = t.add_law c.args.a c.args.b c.add.result c.add.ensures (t.fits_law (a +ℤ b) (more_within g.T.Number.reach a b c.requires.a_small c.requires.b_small)) in
    record { value = is; small = twofold_sum g.T.Number.reach a b (g.T.Number.value c.add.result) c.requires.a_small c.requires.b_small is }
