use Rattle.std.proofs.Common.{◌^◌}
use mir.Syntax.{w32}
use Rattle.lifting.proofs.Lanes.{room_narrow, difference_lanes, difference_each}
use Rattle.lifting.proofs.laned.I32Laned.difference.Goals as goal

pub returns-clause-small : goal.returns-clause-small
returns-clause-small c = difference_lanes w32 (2 ^ 29) room_narrow c.args.a c.args.b c.requires.a_small c.requires.b_small

pub returns-clause-each : goal.returns-clause-each
returns-clause-each c i lt = difference_each w32 (2 ^ 29) room_narrow c.args.a c.args.b c.requires.a_small c.requires.b_small i lt
