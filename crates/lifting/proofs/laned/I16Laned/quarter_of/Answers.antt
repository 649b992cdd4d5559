use Rattle.std.proofs.Common.{◌-◌, ◌^◌}
use mir.Syntax.{w16}
use Rattle.lifting.proofs.Lanes.{room_short, quarter_lanes, quarter_each}
use Rattle.lifting.proofs.laned.I16Laned.quarter_of.Goals as goal

pub returns-clause-small : goal.returns-clause-small
returns-clause-small c = quarter_lanes w16 (2 ^ 14 - 2) room_short c.args.v c.requires

pub returns-clause-each : goal.returns-clause-each
returns-clause-each c i lt = quarter_each w16 (2 ^ 14 - 2) room_short c.args.v c.requires i lt
