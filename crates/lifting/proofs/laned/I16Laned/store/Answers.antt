use Rattle.std.proofs.Common.{pos, ◌-◌, ◌^◌}
use Rattle.std.proofs.lemmas.Simd.{get_or-put_chunk_below}
use mir.Syntax.{w16}
use Rattle.lifting.proofs.Lanes.{room_short, stored_each, stored_above}
use Rattle.lifting.proofs.laned.I16Laned.store.Goals as goal

pub returns-clause-each : goal.returns-clause-each
returns-clause-each c i lt = stored_each w16 (2 ^ 14 - 2) room_short c.args.at c.args.row.now c.args.block c.requires.inside c.requires.small i lt

pub returns-clause-below : goal.returns-clause-below
returns-clause-below c j lt = get_or-put_chunk_below c.args.at c.args.row.now _ j (pos 0) lt

pub returns-clause-above : goal.returns-clause-above
returns-clause-above c j le = stored_above w16 (2 ^ 14 - 2) room_short c.args.at c.args.row.now c.args.block c.requires.small j le
