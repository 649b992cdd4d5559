use Rattle.std.proofs.lemmas.Result.{err_from_is_err_and}
use Rattle.sequence_header.proofs.Groups.{size_pass}
use Rattle.field_rows.proofs.Reading.{then_ok, then_err, read-done}
use Rattle.sequence_header.specs.Header.{size_rows}
use Rattle.sequence_header.proofs.reading.size.Goals as goal

pub returns-in_err-flag_set-clause-read : goal.returns-in_err-flag_set-clause-read
unfolding size_rows
returns-in_err-flag_set-clause-read c =
    let p = err_from_is_err_and c.from_residual.result c.from_residual.ensures.1 in
    rw (p.1, p.2) (then_err _ _ _ _ _ c.in_err-flag_set.ensures)

pub returns-in_err-flag_set-clause-passes : goal.returns-in_err-flag_set-clause-passes
returns-in_err-flag_set-clause-passes c =
    let p = err_from_is_err_and c.from_residual.result c.from_residual.ensures.1 in
    rw p.1 tt

pub returns-in_err-width-clause-read : goal.returns-in_err-width-clause-read
unfolding size_rows
returns-in_err-width-clause-read c =
    let p = err_from_is_err_and c.from_residual-in_err-width.result c.from_residual-in_err-width.ensures.1 in
    rw (p.1, p.2) (then_ok _ _ _ _ _ _ _ c.in_ok-flag_set.ensures (then_err _ _ _ _ _ c.in_err-width.ensures.read))

pub returns-in_err-width-clause-passes : goal.returns-in_err-width-clause-passes
returns-in_err-width-clause-passes c =
    let p = err_from_is_err_and c.from_residual-in_err-width.result c.from_residual-in_err-width.ensures.1 in
    rw p.1 tt

pub returns-in_err-height-clause-read : goal.returns-in_err-height-clause-read
unfolding size_rows
returns-in_err-height-clause-read c =
    let p = err_from_is_err_and c.from_residual-in_err-height.result c.from_residual-in_err-height.ensures.1 in
    rw (p.1, p.2) (then_ok _ _ _ _ _ _ _ c.in_ok-flag_set.ensures (then_ok _ _ _ _ _ _ _ c.in_ok-width.ensures.read (then_err _ _ _ _ _ c.in_err-height.ensures.read)))

pub returns-in_err-height-clause-passes : goal.returns-in_err-height-clause-passes
returns-in_err-height-clause-passes c =
    let p = err_from_is_err_and c.from_residual-in_err-height.result c.from_residual-in_err-height.ensures.1 in
    rw p.1 tt

pub returns-clause-read : goal.returns-clause-read
unfolding size_rows
returns-clause-read c = then_ok _ _ _ _ _ _ _ c.in_ok-flag_set.ensures (then_ok _ _ _ _ _ _ _ c.in_ok-width.ensures.read (then_ok _ _ _ _ _ _ _ c.in_ok-height.ensures.read (read-done _ _ _)))

pub returns-clause-passes : goal.returns-clause-passes
returns-clause-passes c = size_pass _ c.in_ok-width.ensures.range.0 c.in_ok-width.ensures.range.1 c.in_ok-height.ensures.passed
