use Rattle.std.proofs.Common.{take, arith}
use Rattle.bounded_blocks.proofs.Windows.{window-reads}
use Rattle.bounded_blocks.proofs.code_table.CodeTable.codes_at.Goals as goal

pub returns-clause-reads : goal.returns-clause-reads
returns-clause-reads c bytes end at =
    let values = c.entry.result.0.now in
    let head = c.entry.result.1 in
    let begin = c.entry.ensures in
    window-reads 12 head.count head.length (take head.count values) c.args.window bytes end (omega (arith, begin.1)) begin.3 c.requires at
