use Rattle.std.proofs.lemmas.Result.{err_from_is_err_and}
use Rattle.sequence_header.proofs.Groups.{scan_pass, scan_pass_none}
use Rattle.field_rows.proofs.Reading.{then_err}
use Rattle.sequence_header.proofs.Readings.{then_as, set_ok, set_err, unset}
use Rattle.sequence_header.specs.Header.{scan_rows}
use Rattle.sequence_header.proofs.reading.scan.Goals as goal

pub returns-in_err-flag-clause-read : goal.returns-in_err-flag-clause-read
unfolding scan_rows
returns-in_err-flag-clause-read c =
    let p = err_from_is_err_and c.from_residual.result c.from_residual.ensures.1 in
    rw (p.1, p.2) (then_err _ _ _ _ _ c.in_err-flag.ensures)

pub returns-in_err-flag-clause-passes : goal.returns-in_err-flag-clause-passes
returns-in_err-flag-clause-passes c =
    let p = err_from_is_err_and c.from_residual.result c.from_residual.ensures.1 in
    rw p.1 tt

pub returns-in_err-scan-clause-read : goal.returns-in_err-scan-clause-read
unfolding scan_rows
returns-in_err-scan-clause-read c =
    let p = err_from_is_err_and c.from_residual-in_err-scan.result c.from_residual-in_err-scan.ensures.1 in
    rw (p.1, p.2) (then_as _ _ _ _ _ _ _ _ c.in_ok-flag.ensures c.if-not-branch.false (set_err _ _ _ _ (c.in_err-scan.ensures.read)))

pub returns-in_err-scan-clause-passes : goal.returns-in_err-scan-clause-passes
returns-in_err-scan-clause-passes c =
    let p = err_from_is_err_and c.from_residual-in_err-scan.result c.from_residual-in_err-scan.ensures.1 in
    rw p.1 tt

pub returns-then-not-branch-clause-read : goal.returns-then-not-branch-clause-read
unfolding scan_rows
returns-then-not-branch-clause-read c = then_as _ _ _ _ _ _ _ _ c.in_ok-flag.ensures c.if-not-branch.true (unset _ _ _)

pub returns-then-not-branch-clause-passes : goal.returns-then-not-branch-clause-passes
returns-then-not-branch-clause-passes c = scan_pass_none

pub returns-clause-read : goal.returns-clause-read
unfolding scan_rows
returns-clause-read c = then_as _ _ _ _ _ _ _ _ c.in_ok-flag.ensures c.if-not-branch.false (set_ok _ _ _ _ _ (c.in_ok-scan.ensures.read))

pub returns-clause-passes : goal.returns-clause-passes
returns-clause-passes c = scan_pass c.in_ok-scan.scan c.in_ok-scan.ensures.range.1
