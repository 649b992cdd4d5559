use Rattle.std.proofs.Common.{◌∙◌, ◌*◌, ◌%◌, length, arith}
use Rattle.lifting.proofs.RingRows.{row_inside, cut_part, other_rows}
use Rattle.lifting.proofs.in_place.take_row.Goals as goal

pub returns-clause-others : goal.returns-clause-others
returns-clause-others g c =
    let xs = c.args.ring.now in
    let n = 2 * c.args.w in
    let cut = cut_part (c.args.j % 4) n c.start_of-start.result c.start_of-start.ensures xs (row_inside 4 4 n (length xs) (c.args.j % 4) c.requires.room (omega arith) (omega arith)) in
    other_rows g.T.Number.value g.T.Number.none cut c.unweave.new.dst (c.unweave.auto.dst ∙ cut.long)
