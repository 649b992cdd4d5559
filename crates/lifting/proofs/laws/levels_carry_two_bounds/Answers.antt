use Rattle.std.proofs.Common.{refl, ◌*◌, arith}
use Rattle.lifting.specs.Carried.{level_entered}
use Rattle.lifting.proofs.Fitting.{level_within, level_fits}
use Rattle.lifting.proofs.laws.levels_carry_two_bounds.Goals as goal

pub returns : goal.returns
returns c = record {
  made = λ k h w low high ll hl lh hh pl ph pv pd. level_within k h w (2 * h) (2 * w) refl refl low high ll hl lh hh pl ph pv pd;
  entered = λ k h w low high ll hl lh hh pl ph pv pd. level_fits k h w (2 * h) (2 * w) refl refl low high ll hl lh hh pl ph pv pd (level_entered low high) (omega arith);
  linear = λ low high. omega arith;
}
