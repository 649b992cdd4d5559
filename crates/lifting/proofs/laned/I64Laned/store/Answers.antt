use Rattle.std.proofs.Common.{pos, ◌^◌}
use Rattle.std.proofs.lemmas.Simd.{get_or-put_chunk_below}
use mir.Syntax.{w64}
use Rattle.lifting.proofs.Lanes.{room_wide, stored_each, stored_above}
use Rattle.lifting.proofs.laned.I64Laned.store.Goals as goal

pub returns-clause-each : goal.returns-clause-each
returns-clause-each c i lt = stored_each w64 (2 ^ 61) room_wide c.args.at c.args.row.now c.args.block c.requires.inside c.requires.small i lt

pub returns-clause-below : goal.returns-clause-below
returns-clause-below c j lt = get_or-put_chunk_below c.args.at c.args.row.now _ j (pos 0) lt

pub returns-clause-above : goal.returns-clause-above
returns-clause-above c j le = stored_above w64 (2 ^ 61) room_wide c.args.at c.args.row.now c.args.block c.requires.small j le
