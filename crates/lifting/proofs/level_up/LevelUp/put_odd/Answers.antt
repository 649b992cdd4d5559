use Rattle.std.proofs.Common.{◌∙◌, ◌*◌, ◌%◌, arith}
use Rattle.lifting.specs.Places.{row_grid}
use Rattle.lifting.proofs.LevelPairs.{pair_small, evened_small, odd_made}
use Rattle.lifting.proofs.level_up.LevelUp.put_odd.Goals as goal

pub raise_row-requires-clause-lh_small : goal.raise_row-requires-clause-lh_small
raise_row-requires-clause-lh_small g c =
    let l = c.args.self.now in
    let q = c.requires.1.1 in
    let s = q.1.1.1.1.1.1.1 in
    (pair_small l.wavelet l.h l.w g.g g.T.Number.reach s.1.0 g.T.Number.value g.T.Number.none c.args.y (omega (arith, q.1.0, q.1.1.1.1.1.0)) c.args.pair.now s.0).2

pub raise_row-requires-clause-hh_small : goal.raise_row-requires-clause-hh_small
raise_row-requires-clause-hh_small g c =
    let l = c.args.self.now in
    let q = c.requires.1.1 in
    let s = q.1.1.1.1.1.1.1 in
    (pair_small l.wavelet l.h l.w g.g g.T.Number.reach s.1.0 g.T.Number.value g.T.Number.none c.args.y (omega (arith, q.1.0, q.1.1.1.1.1.0)) c.args.pair.now s.0).3

pub raise_row-requires-clause-a_small : goal.raise_row-requires-clause-a_small
raise_row-requires-clause-a_small g c =
    let l = c.args.self.now in
    let q = c.requires.1.1 in
    let s = q.1.1.1.1.1.1.1 in
    evened_small l.wavelet l.h l.w g.g g.T.Number.reach s.1.0 (2 * c.args.y) (omega (arith, q.1.0, q.1.1.1.1.1.0)) (row_grid g.T.Number.value g.T.Number.none (2 * l.w) l.ring.now (c.args.y % 2)) s.1.1.0

pub raise_row-requires-clause-b_small : goal.raise_row-requires-clause-b_small
raise_row-requires-clause-b_small g c =
    let l = c.args.self.now in
    let q = c.requires.1.1 in
    let s = q.1.1.1.1.1.1.1 in
    evened_small l.wavelet l.h l.w g.g g.T.Number.reach s.1.0 (2 * l.came) (omega (arith, q.1.0)) (row_grid g.T.Number.value g.T.Number.none (2 * l.w) l.ring.now (l.came % 2)) s.1.1.1

pub returns-clause-row : goal.returns-clause-row
returns-clause-row g c x lx =
    let l = c.args.self.now in
    let q = c.requires.1.1 in
    let s = q.1.1.1.1.1.1.1 in
    let ring = row_grid g.T.Number.value g.T.Number.none (2 * l.w) l.ring.now in
    c.raise_row.ensures.raised x lx
    ∙ odd_made l.wavelet l.h l.w g.g g.T.Number.value g.T.Number.none c.args.y (omega (arith, q.1.0, q.1.1.1.1.1.0)) c.args.pair.now s.0 (ring (c.args.y % 2)) (ring (l.came % 2)) (2 * l.came) q.1.1.1.1.1.1.0 s.1.1.0 s.1.1.1 x lx
