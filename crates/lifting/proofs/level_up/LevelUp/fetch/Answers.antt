use Rattle.std.proofs.Common.{◌∙◌, ◌*◌}
use Rattle.lifting.specs.Places.{row_grid}
use Rattle.lifting.proofs.LevelPairs.{ring_row}
use Rattle.lifting.proofs.level_up.LevelUp.fetch.Goals as goal

pub returns-then-rows_final-self-clause-row : goal.returns-then-rows_final-self-clause-row
returns-then-rows_final-self-clause-row g c x lx =
    let l = c.args.self.now in
    let is_open = c.requires.1.1.0 in
    c.copy_row.ensures.copied x lx
    ∙ ring_row l.wavelet l.h l.w l.came l.given g.g (row_grid g.T.Number.value g.T.Number.none (2 * l.w) l.ring.now) is_open.few is_open.near c.requires.1.1.1.0 c.requires.1.1.1.1 c.if-self.false x lx

pub returns-clause-row : goal.returns-clause-row
returns-clause-row g c =
    let l = c.args.self.now in
    let is_open = c.requires.1.1.0 in
    ring_row l.wavelet l.h l.w l.came l.given g.g (row_grid g.T.Number.value g.T.Number.none (2 * l.w) l.ring.now) is_open.few is_open.near c.requires.1.1.1.0 c.requires.1.1.1.1 c.if-self.false
