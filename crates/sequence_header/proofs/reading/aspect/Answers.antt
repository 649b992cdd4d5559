use Rattle.std.proofs.Common.{arith}
use Rattle.std.proofs.lemmas.Result.{err_from_is_err_and}
use Rattle.sequence_header.proofs.Groups.{aspect_pass, aspect_pass_none, aspect_pass_pair}
use Rattle.std.proofs.lemmas.Bool.{ne_eqb}
use Rattle.field_rows.proofs.Reading.{then_ok, then_err, read-done}
use Rattle.sequence_header.proofs.Readings.{then_as}
use Rattle.sequence_header.specs.Header.{aspect_rows}
use Rattle.sequence_header.proofs.reading.aspect.Goals as goal

pub returns-in_err-flag-clause-read : goal.returns-in_err-flag-clause-read
unfolding aspect_rows
returns-in_err-flag-clause-read c =
    let p = err_from_is_err_and c.from_residual.result c.from_residual.ensures.1 in
    rw (p.1, p.2) (then_err _ _ _ _ _ c.in_err-flag.ensures)

pub returns-in_err-flag-clause-passes : goal.returns-in_err-flag-clause-passes
returns-in_err-flag-clause-passes c =
    let p = err_from_is_err_and c.from_residual.result c.from_residual.ensures.1 in
    rw p.1 tt

pub returns-in_err-index-clause-read : goal.returns-in_err-index-clause-read
unfolding aspect_rows
returns-in_err-index-clause-read c =
    let p = err_from_is_err_and c.from_residual-in_err-index.result c.from_residual-in_err-index.ensures.1 in
    rw (p.1, p.2) (then_as _ _ _ _ _ _ _ _ c.in_ok-flag.ensures c.if-not-branch.false (then_err _ _ _ _ _ c.in_err-index.ensures))

pub returns-in_err-index-clause-passes : goal.returns-in_err-index-clause-passes
returns-in_err-index-clause-passes c =
    let p = err_from_is_err_and c.from_residual-in_err-index.result c.from_residual-in_err-index.ensures.1 in
    rw p.1 tt

pub returns-in_err-numerator-clause-read : goal.returns-in_err-numerator-clause-read
unfolding aspect_rows
returns-in_err-numerator-clause-read c =
    let p = err_from_is_err_and c.from_residual-in_err-numerator.result c.from_residual-in_err-numerator.ensures.1 in
    rw (p.1, p.2) (then_as _ _ _ _ _ _ _ _ c.in_ok-flag.ensures c.if-not-branch.false (then_as _ _ _ _ _ _ _ _ c.in_ok-index.ensures c.if-index-ne0.false (then_err _ _ _ _ _ c.in_err-numerator.ensures)))

pub returns-in_err-numerator-clause-passes : goal.returns-in_err-numerator-clause-passes
returns-in_err-numerator-clause-passes c =
    let p = err_from_is_err_and c.from_residual-in_err-numerator.result c.from_residual-in_err-numerator.ensures.1 in
    rw p.1 tt

pub returns-in_err-denominator-clause-read : goal.returns-in_err-denominator-clause-read
unfolding aspect_rows
returns-in_err-denominator-clause-read c =
    let p = err_from_is_err_and c.from_residual-in_err-denominator.result c.from_residual-in_err-denominator.ensures.1 in
    rw (p.1, p.2) (then_as _ _ _ _ _ _ _ _ c.in_ok-flag.ensures c.if-not-branch.false (then_as _ _ _ _ _ _ _ _ c.in_ok-index.ensures c.if-index-ne0.false (then_ok _ _ _ _ _ _ _ c.in_ok-numerator.ensures (then_err _ _ _ _ _ c.in_err-denominator.ensures))))

pub returns-in_err-denominator-clause-passes : goal.returns-in_err-denominator-clause-passes
returns-in_err-denominator-clause-passes c =
    let p = err_from_is_err_and c.from_residual-in_err-denominator.result c.from_residual-in_err-denominator.ensures.1 in
    rw p.1 tt

pub returns-then-not-branch-clause-read : goal.returns-then-not-branch-clause-read
unfolding aspect_rows
returns-then-not-branch-clause-read c = then_as _ _ _ _ _ _ _ _ c.in_ok-flag.ensures c.if-not-branch.true (read-done _ _ _)

pub returns-then-not-branch-clause-passes : goal.returns-then-not-branch-clause-passes
returns-then-not-branch-clause-passes c = aspect_pass_none

pub returns-then-index-ne0-clause-read : goal.returns-then-index-ne0-clause-read
unfolding aspect_rows
returns-then-index-ne0-clause-read c = then_as _ _ _ _ _ _ _ _ c.in_ok-flag.ensures c.if-not-branch.false (then_ok _ _ _ _ _ _ _ c.in_ok-index.ensures (rw (ne_eqb c.in_ok-index.index 0 c.if-index-ne0.true) (read-done _ _ _)))

pub returns-then-index-ne0-clause-passes : goal.returns-then-index-ne0-clause-passes
returns-then-index-ne0-clause-passes c = aspect_pass c.in_ok-index.index (omega arith)

pub returns-clause-read : goal.returns-clause-read
unfolding aspect_rows
returns-clause-read c = then_as _ _ _ _ _ _ _ _ c.in_ok-flag.ensures c.if-not-branch.false (then_as _ _ _ _ _ _ _ _ c.in_ok-index.ensures c.if-index-ne0.false (then_ok _ _ _ _ _ _ _ c.in_ok-numerator.ensures (then_ok _ _ _ _ _ _ _ c.in_ok-denominator.ensures (read-done _ _ _))))

pub returns-clause-passes : goal.returns-clause-passes
returns-clause-passes c = aspect_pass_pair c.in_ok-numerator.numerator c.in_ok-denominator.denominator
