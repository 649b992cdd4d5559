use Rattle.std.proofs.Common.{◌^◌}
use mir.Syntax.{w32}
use Rattle.lifting.proofs.Lanes.{room_narrow, half_lanes, half_each}
use Rattle.lifting.proofs.laned.I32Laned.half_of.Goals as goal

pub returns-clause-small : goal.returns-clause-small
returns-clause-small c = half_lanes w32 (2 ^ 29) room_narrow c.args.v c.requires

pub returns-clause-each : goal.returns-clause-each
returns-clause-each c i lt = half_each w32 (2 ^ 29) room_narrow c.args.v c.requires i lt
