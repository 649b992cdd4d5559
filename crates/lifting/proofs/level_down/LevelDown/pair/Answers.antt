use Rattle.std.proofs.Common.{◌∙◌, ◌*◌}
use Rattle.lifting.specs.Places.{row_grid}
use Rattle.lifting.proofs.LevelRows.{few_more, pair_ll, pair_hl, pair_lh, pair_hh}
use Rattle.lifting.proofs.level_down.LevelDown.pair.Goals as goal

pub returns-clause-ll : goal.returns-clause-ll
returns-clause-ll g c grid has x lx =
    let l = c.args.self.now in
    c.pair_in.ensures.ll x lx
    ∙ pair_ll l.wavelet l.h l.w l.came l.made grid (row_grid g.T.Number.value g.T.Number.none (2 * l.w) l.ring.now) c.requires.some (few_more l.wavelet l.h l.came l.made c.requires.ready.made).1 has x lx

pub returns-clause-hl : goal.returns-clause-hl
returns-clause-hl g c grid has x lx =
    let l = c.args.self.now in
    c.pair_in.ensures.hl x lx
    ∙ pair_hl l.wavelet l.h l.w l.came l.made grid (row_grid g.T.Number.value g.T.Number.none (2 * l.w) l.ring.now) c.requires.some (few_more l.wavelet l.h l.came l.made c.requires.ready.made).1 has x lx

pub returns-clause-lh : goal.returns-clause-lh
returns-clause-lh g c grid has x lx =
    let l = c.args.self.now in
    c.pair_in.ensures.lh x lx
    ∙ pair_lh l.wavelet l.h l.w l.came l.made grid (row_grid g.T.Number.value g.T.Number.none (2 * l.w) l.ring.now) c.requires.some (few_more l.wavelet l.h l.came l.made c.requires.ready.made).1 has x lx

pub returns-clause-hh : goal.returns-clause-hh
returns-clause-hh g c grid has x lx =
    let l = c.args.self.now in
    c.pair_in.ensures.hh x lx
    ∙ pair_hh l.wavelet l.h l.w l.came l.made grid (row_grid g.T.Number.value g.T.Number.none (2 * l.w) l.ring.now) c.requires.some (few_more l.wavelet l.h l.came l.made c.requires.ready.made).1 has x lx
