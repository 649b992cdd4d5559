use Rattle.std.proofs.lemmas.Result.{err_from_is_err_and}
use Rattle.sequence_header.proofs.Groups.{sampling_pass}
use Rattle.field_rows.proofs.Reading.{then_ok, then_err, read-done}
use Rattle.sequence_header.specs.Header.{sampling_rows}
use Rattle.sequence_header.proofs.reading.sampling.Goals as goal

pub returns-in_err-flag_set-clause-read : goal.returns-in_err-flag_set-clause-read
unfolding sampling_rows
returns-in_err-flag_set-clause-read c =
    let p = err_from_is_err_and c.from_residual.result c.from_residual.ensures.1 in
    rw (p.1, p.2) (then_err _ _ _ _ _ c.in_err-flag_set.ensures)

pub returns-in_err-flag_set-clause-passes : goal.returns-in_err-flag_set-clause-passes
returns-in_err-flag_set-clause-passes c =
    let p = err_from_is_err_and c.from_residual.result c.from_residual.ensures.1 in
    rw p.1 tt

pub returns-in_err-index-clause-read : goal.returns-in_err-index-clause-read
unfolding sampling_rows
returns-in_err-index-clause-read c =
    let p = err_from_is_err_and c.from_residual-in_err-index.result c.from_residual-in_err-index.ensures.1 in
    rw (p.1, p.2) (then_ok _ _ _ _ _ _ _ c.in_ok-flag_set.ensures (then_err _ _ _ _ _ c.in_err-index.ensures.read))

pub returns-in_err-index-clause-passes : goal.returns-in_err-index-clause-passes
returns-in_err-index-clause-passes c =
    let p = err_from_is_err_and c.from_residual-in_err-index.result c.from_residual-in_err-index.ensures.1 in
    rw p.1 tt

pub returns-clause-read : goal.returns-clause-read
unfolding sampling_rows
returns-clause-read c = then_ok _ _ _ _ _ _ _ c.in_ok-flag_set.ensures (then_ok _ _ _ _ _ _ _ c.in_ok-index.ensures.read (read-done _ _ _))

pub returns-clause-passes : goal.returns-clause-passes
returns-clause-passes c = sampling_pass c.args.size c.in_ok-index.index c.in_ok-index.ensures.passed
