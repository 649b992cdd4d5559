use Rattle.std.proofs.Common.{◌^◌}
use mir.Syntax.{w32}
use Rattle.lifting.proofs.Lanes.{room_narrow, loaded_small, loaded_each}
use Rattle.lifting.proofs.laned.I32Laned.load.Goals as goal

pub returns-clause-small : goal.returns-clause-small
returns-clause-small c = loaded_small w32 (2 ^ 29) room_narrow c.args.at c.args.row.now c.requires.inside c.requires.small

pub returns-clause-each : goal.returns-clause-each
returns-clause-each c i lt = loaded_each w32 (2 ^ 29) room_narrow c.args.at c.args.row.now c.requires.inside c.requires.small i lt
