use Rattle.bounded_blocks.proofs.Windows.{window-reads}
use Rattle.std.proofs.Common.{take}
use Rattle.bounded_blocks.proofs.window.codes_at.Goals as goal

pub returns-clause-reads : goal.returns-clause-reads
returns-clause-reads c bytes end at =
    let codes = c.codes_in.result in
    let begin = c.codes_in.ensures.all in
    window-reads 8 codes.count codes.length (take codes.count codes.values) c.args.window bytes end begin.1 begin.2 c.requires at
