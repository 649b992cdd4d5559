use Rattle.std.proofs.Common.{◌∙◌, subst, sym, ◌*◌, ◌≤◌, List}
use Rattle.lifting.specs.LevelRows.{HoldsRows}
use Rattle.lifting.specs.Places.{row_grid}
use Rattle.lifting.specs.RowAnalysis.{LevelSeen, IsReadyRing, IsMadeRow}
use Rattle.lifting.proofs.LevelRows.{pair_ll, pair_hl, pair_lh, pair_hh}
use Rattle.lifting.proofs.row_analysis.LevelRing.pair.Goals as goal

pub returns-clause-ll : goal.returns-clause-ll
returns-clause-ll g c =
    let l = c.self.inside in
    let in_ring = row_grid g.T.Number.value g.T.Number.none (2 * l.w) in
    subst (λ (l : LevelSeen g.row.T.Denot). IsMadeRow g.T.Number.value g.T.Number.none 0 0 l c.pair_in.result.ll.now) c.self.view_is
    (λ k grid has x lx. c.pair_in.ensures.ll x lx
    ∙ pair_ll k l.h l.w l.came l.made grid (in_ring c.deref.result.now) (subst (λ (l : LevelSeen g.row.T.Denot). 1 ≤ l.made) (sym c.self.view_is) c.requires.some) (subst IsReadyRing (sym c.self.view_is) c.requires.ready).late
    (subst (λ (r : List g.row.T.Denot). HoldsRows k l.h l.w l.came l.made grid (in_ring r)) (sym c.deref.ensures.value) has) x lx)

pub returns-clause-hl : goal.returns-clause-hl
returns-clause-hl g c =
    let l = c.self.inside in
    let in_ring = row_grid g.T.Number.value g.T.Number.none (2 * l.w) in
    subst (λ (l : LevelSeen g.row.T.Denot). IsMadeRow g.T.Number.value g.T.Number.none 0 1 l c.pair_in.result.hl.now) c.self.view_is
    (λ k grid has x lx. c.pair_in.ensures.hl x lx
    ∙ pair_hl k l.h l.w l.came l.made grid (in_ring c.deref.result.now) (subst (λ (l : LevelSeen g.row.T.Denot). 1 ≤ l.made) (sym c.self.view_is) c.requires.some) (subst IsReadyRing (sym c.self.view_is) c.requires.ready).late
    (subst (λ (r : List g.row.T.Denot). HoldsRows k l.h l.w l.came l.made grid (in_ring r)) (sym c.deref.ensures.value) has) x lx)

pub returns-clause-lh : goal.returns-clause-lh
returns-clause-lh g c =
    let l = c.self.inside in
    let in_ring = row_grid g.T.Number.value g.T.Number.none (2 * l.w) in
    subst (λ (l : LevelSeen g.row.T.Denot). IsMadeRow g.T.Number.value g.T.Number.none 1 0 l c.pair_in.result.lh.now) c.self.view_is
    (λ k grid has x lx. c.pair_in.ensures.lh x lx
    ∙ pair_lh k l.h l.w l.came l.made grid (in_ring c.deref.result.now) (subst (λ (l : LevelSeen g.row.T.Denot). 1 ≤ l.made) (sym c.self.view_is) c.requires.some) (subst IsReadyRing (sym c.self.view_is) c.requires.ready).late
    (subst (λ (r : List g.row.T.Denot). HoldsRows k l.h l.w l.came l.made grid (in_ring r)) (sym c.deref.ensures.value) has) x lx)

pub returns-clause-hh : goal.returns-clause-hh
returns-clause-hh g c =
    let l = c.self.inside in
    let in_ring = row_grid g.T.Number.value g.T.Number.none (2 * l.w) in
    subst (λ (l : LevelSeen g.row.T.Denot). IsMadeRow g.T.Number.value g.T.Number.none 1 1 l c.pair_in.result.hh.now) c.self.view_is
    (λ k grid has x lx. c.pair_in.ensures.hh x lx
    ∙ pair_hh k l.h l.w l.came l.made grid (in_ring c.deref.result.now) (subst (λ (l : LevelSeen g.row.T.Denot). 1 ≤ l.made) (sym c.self.view_is) c.requires.some) (subst IsReadyRing (sym c.self.view_is) c.requires.ready).late
    (subst (λ (r : List g.row.T.Denot). HoldsRows k l.h l.w l.came l.made grid (in_ring r)) (sym c.deref.ensures.value) has) x lx)
