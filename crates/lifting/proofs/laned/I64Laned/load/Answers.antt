use Rattle.std.proofs.Common.{◌^◌}
use mir.Syntax.{w64}
use Rattle.lifting.proofs.Lanes.{room_wide, loaded_small, loaded_each}
use Rattle.lifting.proofs.laned.I64Laned.load.Goals as goal

pub returns-clause-small : goal.returns-clause-small
returns-clause-small c = loaded_small w64 (2 ^ 61) room_wide c.args.at c.args.row.now c.requires.inside c.requires.small

pub returns-clause-each : goal.returns-clause-each
returns-clause-each c i lt = loaded_each w64 (2 ^ 61) room_wide c.args.at c.args.row.now c.requires.inside c.requires.small i lt
