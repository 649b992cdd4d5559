use Rattle.std.proofs.Common.{sym, ◌∙◌}
use Rattle.stream_reader.proofs.ReaderTurns.{behind_end, behind_other}
use Rattle.stream_reader.proofs.table.StreamTableTable.behind.Goals as goal

pub returns-then-is_end : goal.returns-then-is_end
returns-then-is_end c = λ before unit bytes f. behind_end before.past c.args.found.now unit bytes (sym c.is_end.ensures ∙ c.if-is_end.true) f.is_read.0

pub returns : goal.returns
returns c = λ before unit bytes f. behind_other before.past c.args.found.now unit bytes (sym c.is_end.ensures ∙ c.if-is_end.false) f.is_read.0
