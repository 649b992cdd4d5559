use Rattle.std.proofs.Common.{◌∙◌, ◌-◌, ◌*◌, ◌%◌, length, arith}
use Rattle.lifting.proofs.LevelPairs.{pair_small, even_made}
use Rattle.lifting.proofs.RingRows.{row_inside, cut_part, own_row, other_rows}
use Rattle.lifting.proofs.level_up.LevelUp.put_even.Goals as goal

pub step_sides-requires-clause-left : goal.step_sides-requires-clause-left
step_sides-requires-clause-left g c =
    let l = c.args.self.now in
    let q = c.requires.1.1.1 in
    let above = q.1.0 in
    let pair = q.1.1.0 in
    let small = pair_small l.wavelet l.h l.w g.g g.T.Number.reach q.1.1.1 g.T.Number.value g.T.Number.none in
    let sa = small (l.came - 1) (omega (arith, q.0)) c.args.above.now above in
    let sp = small l.came q.0 c.args.pair.now pair in
    (pair.ll_long, above.lh_long, pair.lh_long, sp.0, sa.2, sp.2)

pub step_sides-requires-clause-right : goal.step_sides-requires-clause-right
step_sides-requires-clause-right g c =
    let l = c.args.self.now in
    let q = c.requires.1.1.1 in
    let above = q.1.0 in
    let pair = q.1.1.0 in
    let small = pair_small l.wavelet l.h l.w g.g g.T.Number.reach q.1.1.1 g.T.Number.value g.T.Number.none in
    let sa = small (l.came - 1) (omega (arith, q.0)) c.args.above.now above in
    let sp = small l.came q.0 c.args.pair.now pair in
    (pair.hl_long, above.hh_long, pair.hh_long, sp.1, sa.3, sp.3)

pub returns-clause-row : goal.returns-clause-row
returns-clause-row g c x lx =
    let l = c.args.self.now in
    let is_open = c.requires.1.1.0 in
    let q = c.requires.1.1.1 in
    let inside = row_inside 3 (2 * l.h) (2 * l.w) (length l.ring.now) (l.came % 2) is_open.ring (omega arith) (omega (arith, q.0)) in
    let cut = cut_part (l.came % 2) (2 * l.w) c.start_of-start.result c.start_of-start.ensures l.ring.now inside in
    own_row g.T.Number.value g.T.Number.none cut c.step_sides.new.dst (c.step_sides.auto.dst ∙ cut.long) x lx
    ∙ c.step_sides.ensures x lx
    ∙ even_made l.wavelet l.h l.w g.g g.T.Number.value g.T.Number.none l.came q.0 c.args.pair.now q.1.1.0 c.args.above.now q.1.0 x lx

pub returns-clause-others : goal.returns-clause-others
returns-clause-others g c =
    let l = c.args.self.now in
    let inside = row_inside 3 (2 * l.h) (2 * l.w) (length l.ring.now) (l.came % 2) c.requires.1.1.0.ring (omega arith) (omega (arith, c.requires.1.1.1.0)) in
    let cut = cut_part (l.came % 2) (2 * l.w) c.start_of-start.result c.start_of-start.ensures l.ring.now inside in
    other_rows g.T.Number.value g.T.Number.none cut c.step_sides.new.dst (c.step_sides.auto.dst ∙ cut.long)
