use Rattle.std.proofs.lemmas.Result.{err_from_is_err_and}
use Rattle.sequence_header.proofs.Groups.{index_pass, index_pass_none}
use Rattle.field_rows.proofs.Reading.{then_err}
use Rattle.sequence_header.proofs.Readings.{then_as, set_ok, set_err, unset}
use Rattle.sequence_header.specs.Header.{flagged_index}
use Rattle.sequence_header.proofs.reading.index_behind_flag.Goals as goal

pub returns-in_err-flag-clause-read : goal.returns-in_err-flag-clause-read
unfolding flagged_index
returns-in_err-flag-clause-read c =
    let p = err_from_is_err_and c.from_residual.result c.from_residual.ensures.1 in
    rw (p.1, p.2) (then_err _ _ _ _ _ c.in_err-flag.ensures)

pub returns-in_err-flag-clause-passes : goal.returns-in_err-flag-clause-passes
returns-in_err-flag-clause-passes c =
    let p = err_from_is_err_and c.from_residual.result c.from_residual.ensures.1 in
    rw p.1 tt

pub returns-in_err-index-clause-read : goal.returns-in_err-index-clause-read
unfolding flagged_index
returns-in_err-index-clause-read c =
    let p = err_from_is_err_and c.from_residual-in_err-index.result c.from_residual-in_err-index.ensures.1 in
    rw (p.1, p.2) (then_as _ _ _ _ _ _ _ _ c.in_ok-flag.ensures c.if-not-branch.false (set_err _ _ _ _ (c.in_err-index.ensures)))

pub returns-in_err-index-clause-passes : goal.returns-in_err-index-clause-passes
returns-in_err-index-clause-passes c =
    let p = err_from_is_err_and c.from_residual-in_err-index.result c.from_residual-in_err-index.ensures.1 in
    rw p.1 tt

pub returns-then-not-branch-clause-read : goal.returns-then-not-branch-clause-read
unfolding flagged_index
returns-then-not-branch-clause-read c = then_as _ _ _ _ _ _ _ _ c.in_ok-flag.ensures c.if-not-branch.true (unset _ _ _)

pub returns-then-not-branch-clause-passes : goal.returns-then-not-branch-clause-passes
returns-then-not-branch-clause-passes c = index_pass_none

pub returns-clause-read : goal.returns-clause-read
unfolding flagged_index
returns-clause-read c = then_as _ _ _ _ _ _ _ _ c.in_ok-flag.ensures c.if-not-branch.false (set_ok _ _ _ _ _ (c.in_ok-index.ensures))

pub returns-clause-passes : goal.returns-clause-passes
returns-clause-passes c = index_pass c.in_ok-index.index
