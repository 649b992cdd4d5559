use Rattle.std.proofs.Common.{◌^◌}
use mir.Syntax.{w64}
use Rattle.lifting.proofs.Lanes.{room_wide, quarter_lanes, quarter_each}
use Rattle.lifting.proofs.laned.I64Laned.quarter_of.Goals as goal

pub returns-clause-small : goal.returns-clause-small
returns-clause-small c = quarter_lanes w64 (2 ^ 61) room_wide c.args.v c.requires

pub returns-clause-each : goal.returns-clause-each
returns-clause-each c i lt = quarter_each w64 (2 ^ 61) room_wide c.args.v c.requires i lt
