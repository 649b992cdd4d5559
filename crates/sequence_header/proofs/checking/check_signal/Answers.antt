use Rattle.sequence_header.proofs.Groups.{signal_pass, signal_pass_custom}
use Rattle.sequence_header.proofs.Failing.{signal_fail, luma_fail, colour_fail, from_within}
use Rattle.std.proofs.lemmas.Result.{err_from_is_err_and}
use Rattle.sequence_header.specs.declared.parts.HeaderReason.TheVariants.{SignalRefused}
use Rattle.sequence_header.proofs.checking.check_signal.Goals as goal

pub returns-in-Index : goal.returns-in-Index
returns-in-Index c = rw c.in-Index.is (from_within _ _ _ 1 4 c.in-Index.index SignalRefused c.check_within.result c.check_within.ensures.ok c.check_within.ensures.err (signal_pass c.in-Index.index) (signal_fail c.in-Index.index))

pub returns-in_err-check_within-in-Custom : goal.returns-in_err-check_within-in-Custom
returns-in_err-check_within-in-Custom c =
    let p = err_from_is_err_and c.from_residual.result c.from_residual.ensures.1 in
    rw (c.in-Custom.is, p.1, p.2, c.in_err-check_within-in-Custom.ensures.err.0) (luma_fail c.in-Custom.range c.in_err-check_within-in-Custom.ensures.err.1)

pub returns-in_ok-check_within-in-Custom : goal.returns-in_ok-check_within-in-Custom
returns-in_ok-check_within-in-Custom c =
    let n = c.in_ok-check_within-in-Custom.ensures.ok in
    rw c.in-Custom.is (from_within _ _ _ 1 65535 c.in-Custom.range.colour_excursion SignalRefused c.check_within-in-Custom-2.result c.check_within-in-Custom-2.ensures.ok c.check_within-in-Custom-2.ensures.err
    (λ low high. signal_pass_custom c.in-Custom.range n.0 n.1 low high) (colour_fail c.in-Custom.range n.0 n.1))
