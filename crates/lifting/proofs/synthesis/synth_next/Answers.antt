use Rattle.std.proofs.Common.{rules, ℕ}
use Rattle.lifting.proofs.Levels.{next_in_room, level_asks, level_stands}
use Rattle.lifting.proofs.synthesis.synth_next.Goals as goal

pub raise_level-requires : goal.raise_level-requires
raise_level-requires G c κs within =
    let q = c.requires.room in
    let b = c.args.bands.now in
    let n : ℕ = c.args.n in
    let l = c.level_of.result in
    let room = next_in_room b n c.args.size.w c.args.size.h c.args.plane.now c.args.scratch.now q c.requires.some c.args.wavelet l c.level_of.ensures in
    let asks =
    level_asks G.T.Number.value G.T.Number.none c.args.wavelet b n c.args.size.w c.args.size.h q.whole_columns q.whole_rows q.bands c.requires.some c.args.plane.now l c.level_of.ensures c.requires.below
    G.T.Number.reach c.requires.has_room in
    (search rules, (search rules, (asks.0, (asks.1, (asks.2, (asks.3, (room.0, (room.1, (room.2, room.3)))))))))

pub returns-clause-levels : goal.returns-clause-levels
returns-clause-levels G c =
    let q = c.requires.room in
    level_stands G.T.Number.value G.T.Number.none c.args.wavelet c.args.bands.now c.args.n c.args.size.w c.args.size.h q.whole_columns q.whole_rows q.bands c.requires.some c.args.plane.now c.level_of.result c.level_of.ensures c.requires.below
    c.raise_level.new.plane c.raise_level.ensures.level
