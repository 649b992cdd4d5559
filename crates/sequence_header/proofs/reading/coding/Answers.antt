use Rattle.std.proofs.Common.{sym, ◌∙◌}
use Rattle.sequence_header.proofs.Groups.{coding_pass}
use Rattle.sequence_header.proofs.reading.coding.Goals as goal

pub returns-clause-passes : goal.returns-clause-passes
returns-clause-passes c = coding_pass c.args.size c.args.sampling c.in_ok-coding.coding (sym c.coding_rule.ensures ∙ c.in_default.is)
