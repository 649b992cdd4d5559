use Rattle.std.proofs.Common.{◌∙◌, ◌*◌, ◌%◌}
use Rattle.planes.specs.Valued.{valued}
use Rattle.lifting.proofs.LevelRows.{same_lifted}
use Rattle.lifting.proofs.RingRows.{cut_part, own_row, other_rows}
use Rattle.lifting.proofs.level_down.put_sides.Goals as goal

pub returns-clause-row : goal.returns-clause-row
returns-clause-row g c x lx =
    let q = c.requires.1.1 in
    let w = c.args.w in
    let cut = cut_part (c.args.came % 4) (2 * w) c.start_of-start.result c.start_of-start.ensures c.args.ring.now q.1.1.0 in
    own_row g.T.Number.value g.T.Number.none cut c.analyse_sides.new.dst (c.analyse_sides.auto.dst ∙ cut.long) x lx
    ∙ c.analyse_sides.ensures x lx
    ∙ same_lifted c.args.wavelet w c.args.came g.g (valued g.T.Number.value g.T.Number.none c.args.row.now) q.1.1.1.1.0 x lx

pub returns-clause-others : goal.returns-clause-others
returns-clause-others g c =
    let q = c.requires.1.1 in
    let cut = cut_part (c.args.came % 4) (2 * c.args.w) c.start_of-start.result c.start_of-start.ensures c.args.ring.now q.1.1.0 in
    other_rows g.T.Number.value g.T.Number.none cut c.analyse_sides.new.dst (c.analyse_sides.auto.dst ∙ cut.long)
