use Rattle.std.proofs.Common.{◌-ℤ◌}
use Rattle.lifting.proofs.Growth.{less_within}
use Rattle.lifting.proofs.kernels.difference.Goals as goal

pub sub-requires : goal.sub-requires
sub-requires g c = g.met.T.Number.can_sub_law c.args.a c.args.b (g.met.T.Number.fits_law (g.T.Number.value c.args.a -ℤ g.T.Number.value c.args.b) (less_within g.T.Number.reach (g.T.Number.value c.args.a) (g.T.Number.value c.args.b) c.requires.a_small c.requires.b_small))

pub returns : goal.returns
returns g c = g.met.T.Number.sub_law c.args.a c.args.b c.sub.result c.sub.ensures (g.met.T.Number.fits_law (g.T.Number.value c.args.a -ℤ g.T.Number.value c.args.b) (less_within g.T.Number.reach (g.T.Number.value c.args.a) (g.T.Number.value c.args.b) c.requires.a_small c.requires.b_small))
