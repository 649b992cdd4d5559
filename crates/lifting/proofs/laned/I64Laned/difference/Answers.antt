use Rattle.std.proofs.Common.{◌^◌}
use mir.Syntax.{w64}
use Rattle.lifting.proofs.Lanes.{room_wide, difference_lanes, difference_each}
use Rattle.lifting.proofs.laned.I64Laned.difference.Goals as goal

pub returns-clause-small : goal.returns-clause-small
returns-clause-small c = difference_lanes w64 (2 ^ 61) room_wide c.args.a c.args.b c.requires.a_small c.requires.b_small

pub returns-clause-each : goal.returns-clause-each
returns-clause-each c i lt = difference_each w64 (2 ^ 61) room_wide c.args.a c.args.b c.requires.a_small c.requires.b_small i lt
