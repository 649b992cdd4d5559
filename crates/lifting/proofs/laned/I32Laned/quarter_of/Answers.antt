use Rattle.std.proofs.Common.{◌^◌}
use mir.Syntax.{w32}
use Rattle.lifting.proofs.Lanes.{room_narrow, quarter_lanes, quarter_each}
use Rattle.lifting.proofs.laned.I32Laned.quarter_of.Goals as goal

pub returns-clause-small : goal.returns-clause-small
returns-clause-small c = quarter_lanes w32 (2 ^ 29) room_narrow c.args.v c.requires

pub returns-clause-each : goal.returns-clause-each
returns-clause-each c i lt = quarter_each w32 (2 ^ 29) room_narrow c.args.v c.requires i lt
