use Rattle.std.proofs.Common.{◌∙◌, sym}
use Rattle.sequence_header.proofs.Groups.{sampling_pass}
use Rattle.sequence_header.proofs.Failing.{sampling_fail}
use Rattle.sequence_header.proofs.checking.check_sampling.Goals as goal

pub returns-in-Some : goal.returns-in-Some
returns-in-Some c = sampling_fail c.args.size c.args.index c.in-Some.reason (sym c.sampling_rule.ensures ∙ c.in-Some.is)

pub returns-in-None : goal.returns-in-None
returns-in-None c = sampling_pass c.args.size c.args.index (sym c.sampling_rule.ensures ∙ c.in-None.is)
