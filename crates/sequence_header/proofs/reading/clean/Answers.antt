use Rattle.std.proofs.lemmas.Result.{err_from_is_err_and}
use Rattle.sequence_header.proofs.Groups.{clean_pass, clean_pass_none}
use Rattle.field_rows.proofs.Reading.{then_ok, then_err, read-done}
use Rattle.sequence_header.proofs.Readings.{then_as, set_ok, set_err, unset}
use Rattle.sequence_header.specs.Header.{clean_rows}
use Rattle.sequence_header.proofs.reading.clean.Goals as goal

pub returns-in_err-flag-clause-read : goal.returns-in_err-flag-clause-read
unfolding clean_rows
returns-in_err-flag-clause-read c =
    let p = err_from_is_err_and c.from_residual.result c.from_residual.ensures.1 in
    rw (p.1, p.2) (then_err _ _ _ _ _ c.in_err-flag.ensures)

pub returns-in_err-flag-clause-passes : goal.returns-in_err-flag-clause-passes
returns-in_err-flag-clause-passes c =
    let p = err_from_is_err_and c.from_residual.result c.from_residual.ensures.1 in
    rw p.1 tt

pub returns-in_err-width-clause-read : goal.returns-in_err-width-clause-read
unfolding clean_rows
returns-in_err-width-clause-read c =
    let p = err_from_is_err_and c.from_residual-in_err-width.result c.from_residual-in_err-width.ensures.1 in
    rw (p.1, p.2) (then_as _ _ _ _ _ _ _ _ c.in_ok-flag.ensures c.if-not-branch.false (set_err _ _ _ _ (then_err _ _ _ _ _ c.in_err-width.ensures)))

pub returns-in_err-width-clause-passes : goal.returns-in_err-width-clause-passes
returns-in_err-width-clause-passes c =
    let p = err_from_is_err_and c.from_residual-in_err-width.result c.from_residual-in_err-width.ensures.1 in
    rw p.1 tt

pub returns-in_err-height-clause-read : goal.returns-in_err-height-clause-read
unfolding clean_rows
returns-in_err-height-clause-read c =
    let p = err_from_is_err_and c.from_residual-in_err-height.result c.from_residual-in_err-height.ensures.1 in
    rw (p.1, p.2) (then_as _ _ _ _ _ _ _ _ c.in_ok-flag.ensures c.if-not-branch.false (set_err _ _ _ _ (then_ok _ _ _ _ _ _ _ c.in_ok-width.ensures (then_err _ _ _ _ _ c.in_err-height.ensures))))

pub returns-in_err-height-clause-passes : goal.returns-in_err-height-clause-passes
returns-in_err-height-clause-passes c =
    let p = err_from_is_err_and c.from_residual-in_err-height.result c.from_residual-in_err-height.ensures.1 in
    rw p.1 tt

pub returns-in_err-left-clause-read : goal.returns-in_err-left-clause-read
unfolding clean_rows
returns-in_err-left-clause-read c =
    let p = err_from_is_err_and c.from_residual-in_err-left.result c.from_residual-in_err-left.ensures.1 in
    rw (p.1, p.2) (then_as _ _ _ _ _ _ _ _ c.in_ok-flag.ensures c.if-not-branch.false (set_err _ _ _ _ (then_ok _ _ _ _ _ _ _ c.in_ok-width.ensures (then_ok _ _ _ _ _ _ _ c.in_ok-height.ensures (then_err _ _ _ _ _ c.in_err-left.ensures)))))

pub returns-in_err-left-clause-passes : goal.returns-in_err-left-clause-passes
returns-in_err-left-clause-passes c =
    let p = err_from_is_err_and c.from_residual-in_err-left.result c.from_residual-in_err-left.ensures.1 in
    rw p.1 tt

pub returns-in_err-top-clause-read : goal.returns-in_err-top-clause-read
unfolding clean_rows
returns-in_err-top-clause-read c =
    let p = err_from_is_err_and c.from_residual-in_err-top.result c.from_residual-in_err-top.ensures.1 in
    rw (p.1, p.2) (then_as _ _ _ _ _ _ _ _ c.in_ok-flag.ensures c.if-not-branch.false (set_err _ _ _ _ (then_ok _ _ _ _ _ _ _ c.in_ok-width.ensures (then_ok _ _ _ _ _ _ _ c.in_ok-height.ensures (then_ok _ _ _ _ _ _ _ c.in_ok-left.ensures (then_err _ _ _ _ _ c.in_err-top.ensures))))))

pub returns-in_err-top-clause-passes : goal.returns-in_err-top-clause-passes
returns-in_err-top-clause-passes c =
    let p = err_from_is_err_and c.from_residual-in_err-top.result c.from_residual-in_err-top.ensures.1 in
    rw p.1 tt

pub returns-then-not-branch-clause-read : goal.returns-then-not-branch-clause-read
unfolding clean_rows
returns-then-not-branch-clause-read c = then_as _ _ _ _ _ _ _ _ c.in_ok-flag.ensures c.if-not-branch.true (unset _ _ _)

pub returns-then-not-branch-clause-passes : goal.returns-then-not-branch-clause-passes
returns-then-not-branch-clause-passes c = clean_pass_none

pub returns-clause-read : goal.returns-clause-read
unfolding clean_rows
returns-clause-read c = then_as _ _ _ _ _ _ _ _ c.in_ok-flag.ensures c.if-not-branch.false (set_ok _ _ _ _ _ (then_ok _ _ _ _ _ _ _ c.in_ok-width.ensures (then_ok _ _ _ _ _ _ _ c.in_ok-height.ensures (then_ok _ _ _ _ _ _ _ c.in_ok-left.ensures (then_ok _ _ _ _ _ _ _ c.in_ok-top.ensures (read-done _ _ _))))))

pub returns-clause-passes : goal.returns-clause-passes
returns-clause-passes c = clean_pass _
