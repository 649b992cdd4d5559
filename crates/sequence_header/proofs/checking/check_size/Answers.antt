use Rattle.std.proofs.Common.{◌∙◌, sym}
use Rattle.sequence_header.proofs.Groups.{size_pass}
use Rattle.sequence_header.proofs.Failing.{width_fail, height_fail}
use Rattle.std.proofs.lemmas.Result.{err_from_is_err_and}
use Rattle.sequence_header.proofs.checking.check_size.Goals as goal

pub returns-in_err-check_within : goal.returns-in_err-check_within
returns-in_err-check_within c =
    let p = err_from_is_err_and c.from_residual.result c.from_residual.ensures.1 in
    rw (p.1, p.2, c.in_err-check_within.ensures.err.0) (width_fail c.args.size c.in_err-check_within.ensures.err.1)

pub returns-in-Some : goal.returns-in-Some
returns-in-Some c = height_fail c.args.size c.in-Some.reason c.in_ok-check_within.ensures.ok.0 c.in_ok-check_within.ensures.ok.1 (sym c.height_rule.ensures ∙ c.in-Some.is)

pub returns-in-None : goal.returns-in-None
returns-in-None c = size_pass c.args.size c.in_ok-check_within.ensures.ok.0 c.in_ok-check_within.ensures.ok.1 (sym c.height_rule.ensures ∙ c.in-None.is)
