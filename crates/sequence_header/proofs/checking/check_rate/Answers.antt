use Rattle.std.proofs.Common.{◌^◌, ◌-◌, arith}
use Rattle.sequence_header.proofs.Groups.{rate_pass, rate_pass_pair}
use Rattle.sequence_header.proofs.Failing.{rate_fail, numerator_fail, denominator_fail, from_within}
use Rattle.std.proofs.lemmas.Result.{err_from_is_err_and}
use Rattle.sequence_header.specs.declared.parts.HeaderReason.TheVariants.{RateRefused}
use Rattle.sequence_header.proofs.checking.check_rate.Goals as goal

pub returns-in-Index : goal.returns-in-Index
returns-in-Index c = rw c.in-Index.is (from_within _ _ _ 1 8 c.in-Index.index RateRefused c.check_within.result c.check_within.ensures.ok c.check_within.ensures.err (rate_pass c.in-Index.index) (rate_fail c.in-Index.index))

pub returns-in_err-check_within-in-Pair : goal.returns-in_err-check_within-in-Pair
returns-in_err-check_within-in-Pair c =
    let p = err_from_is_err_and c.from_residual.result c.from_residual.ensures.1 in
    rw (c.in-Pair.is, p.1, p.2, c.in_err-check_within-in-Pair.ensures.err.0) (numerator_fail c.in-Pair.numerator c.in-Pair.denominator c.in_err-check_within-in-Pair.ensures.err.1)

pub returns-in_ok-check_within-in-Pair : goal.returns-in_ok-check_within-in-Pair
returns-in_ok-check_within-in-Pair c =
    let n = c.in_ok-check_within-in-Pair.ensures.ok in
    rw c.in-Pair.is (from_within _ _ _ 1 (2 ^ 32 - 1) c.in-Pair.denominator RateRefused c.check_within-in-Pair-2.result c.check_within-in-Pair-2.ensures.ok c.check_within-in-Pair-2.ensures.err
    (λ low high. rate_pass_pair c.in-Pair.numerator c.in-Pair.denominator n.0 low (omega (arith, n.1)) (omega arith)) (denominator_fail c.in-Pair.numerator c.in-Pair.denominator n.0 n.1))
