use Rattle.std.proofs.Common.{◌∙◌, sym}
use Rattle.sequence_header.proofs.Groups.{coding_pass}
use Rattle.sequence_header.proofs.Failing.{coding_fail}
use Rattle.sequence_header.proofs.checking.check_coding.Goals as goal

pub returns-in-Some : goal.returns-in-Some
returns-in-Some c = coding_fail c.args.size c.args.sampling c.args.coding c.in-Some.reason (sym c.coding_rule.ensures ∙ c.in-Some.is)

pub returns-in-None : goal.returns-in-None
returns-in-None c = coding_pass c.args.size c.args.sampling c.args.coding (sym c.coding_rule.ensures ∙ c.in-None.is)
