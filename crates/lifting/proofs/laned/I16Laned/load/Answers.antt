use Rattle.std.proofs.Common.{◌-◌, ◌^◌}
use mir.Syntax.{w16}
use Rattle.lifting.proofs.Lanes.{room_short, loaded_small, loaded_each}
use Rattle.lifting.proofs.laned.I16Laned.load.Goals as goal

pub returns-clause-small : goal.returns-clause-small
returns-clause-small c = loaded_small w16 (2 ^ 14 - 2) room_short c.args.at c.args.row.now c.requires.inside c.requires.small

pub returns-clause-each : goal.returns-clause-each
returns-clause-each c i lt = loaded_each w16 (2 ^ 14 - 2) room_short c.args.at c.args.row.now c.requires.inside c.requires.small i lt
