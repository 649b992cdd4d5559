use Rattle.std.proofs.Common.{◌-◌, ◌^◌}
use mir.Syntax.{w16}
use Rattle.lifting.proofs.Lanes.{room_short, sum_lanes, sum_each}
use Rattle.lifting.proofs.laned.I16Laned.sum.Goals as goal

pub returns-clause-small : goal.returns-clause-small
returns-clause-small c = sum_lanes w16 (2 ^ 14 - 2) room_short c.args.a c.args.b c.requires.a_small c.requires.b_small

pub returns-clause-each : goal.returns-clause-each
returns-clause-each c i lt = sum_each w16 (2 ^ 14 - 2) room_short c.args.a c.args.b c.requires.a_small c.requires.b_small i lt
