use Rattle.std.proofs.lemmas.Result.{err_from_is_err_and}
use Rattle.sequence_header.proofs.Groups.{version_pass}
use Rattle.field_rows.proofs.Reading.{then_ok, then_err, read-done}
use Rattle.sequence_header.specs.Header.{version_rows}
use Rattle.sequence_header.proofs.reading.version.Goals as goal

pub returns-in_err-major-clause-read : goal.returns-in_err-major-clause-read
unfolding version_rows
returns-in_err-major-clause-read c =
    let p = err_from_is_err_and c.from_residual.result c.from_residual.ensures.1 in
    rw (p.1, p.2) (then_err _ _ _ _ _ c.in_err-major.ensures.read)

pub returns-in_err-major-clause-passes : goal.returns-in_err-major-clause-passes
returns-in_err-major-clause-passes c =
    let p = err_from_is_err_and c.from_residual.result c.from_residual.ensures.1 in
    rw p.1 tt

pub returns-in_err-minor-clause-read : goal.returns-in_err-minor-clause-read
unfolding version_rows
returns-in_err-minor-clause-read c =
    let p = err_from_is_err_and c.from_residual-in_err-minor.result c.from_residual-in_err-minor.ensures.1 in
    rw (p.1, p.2) (then_ok _ _ _ _ _ _ _ c.in_ok-major.ensures.read (then_err _ _ _ _ _ c.in_err-minor.ensures))

pub returns-in_err-minor-clause-passes : goal.returns-in_err-minor-clause-passes
returns-in_err-minor-clause-passes c =
    let p = err_from_is_err_and c.from_residual-in_err-minor.result c.from_residual-in_err-minor.ensures.1 in
    rw p.1 tt

pub returns-in_err-number_within-clause-read : goal.returns-in_err-number_within-clause-read
unfolding version_rows
returns-in_err-number_within-clause-read c =
    let p = err_from_is_err_and c.from_residual-in_err-number_within.result c.from_residual-in_err-number_within.ensures.1 in
    rw (p.1, p.2) (then_ok _ _ _ _ _ _ _ c.in_ok-major.ensures.read (then_ok _ _ _ _ _ _ _ c.in_ok-minor.ensures (then_err _ _ _ _ _ c.in_err-number_within.ensures.read)))

pub returns-in_err-number_within-clause-passes : goal.returns-in_err-number_within-clause-passes
returns-in_err-number_within-clause-passes c =
    let p = err_from_is_err_and c.from_residual-in_err-number_within.result c.from_residual-in_err-number_within.ensures.1 in
    rw p.1 tt

pub returns-in_err-level-clause-read : goal.returns-in_err-level-clause-read
unfolding version_rows
returns-in_err-level-clause-read c =
    let p = err_from_is_err_and c.from_residual-in_err-level.result c.from_residual-in_err-level.ensures.1 in
    rw (p.1, p.2) (then_ok _ _ _ _ _ _ _ c.in_ok-major.ensures.read (then_ok _ _ _ _ _ _ _ c.in_ok-minor.ensures (then_ok _ _ _ _ _ _ _ c.in_ok-number_within.ensures.read (then_err _ _ _ _ _ c.in_err-level.ensures))))

pub returns-in_err-level-clause-passes : goal.returns-in_err-level-clause-passes
returns-in_err-level-clause-passes c =
    let p = err_from_is_err_and c.from_residual-in_err-level.result c.from_residual-in_err-level.ensures.1 in
    rw p.1 tt

pub returns-in_err-number_within-2-clause-read : goal.returns-in_err-number_within-2-clause-read
unfolding version_rows
returns-in_err-number_within-2-clause-read c =
    let p = err_from_is_err_and c.from_residual-in_err-number_within-2.result c.from_residual-in_err-number_within-2.ensures.1 in
    rw (p.1, p.2) (then_ok _ _ _ _ _ _ _ c.in_ok-major.ensures.read (then_ok _ _ _ _ _ _ _ c.in_ok-minor.ensures (then_ok _ _ _ _ _ _ _ c.in_ok-number_within.ensures.read (then_ok _ _ _ _ _ _ _ c.in_ok-level.ensures (then_err _ _ _ _ _ c.in_err-number_within-2.ensures.read)))))

pub returns-in_err-number_within-2-clause-passes : goal.returns-in_err-number_within-2-clause-passes
returns-in_err-number_within-2-clause-passes c =
    let p = err_from_is_err_and c.from_residual-in_err-number_within-2.result c.from_residual-in_err-number_within-2.ensures.1 in
    rw p.1 tt

pub returns-clause-read : goal.returns-clause-read
unfolding version_rows
returns-clause-read c = then_ok _ _ _ _ _ _ _ c.in_ok-major.ensures.read (then_ok _ _ _ _ _ _ _ c.in_ok-minor.ensures (then_ok _ _ _ _ _ _ _ c.in_ok-number_within.ensures.read (then_ok _ _ _ _ _ _ _ c.in_ok-level.ensures (then_ok _ _ _ _ _ _ _ c.in_ok-number_within-2.ensures.read (read-done _ _ _)))))

pub returns-clause-passes : goal.returns-clause-passes
returns-clause-passes c = version_pass _ c.in_ok-major.ensures.range.0 c.in_ok-major.ensures.range.1
