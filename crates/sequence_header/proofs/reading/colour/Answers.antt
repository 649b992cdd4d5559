use Rattle.std.proofs.Common.{arith}
use Rattle.std.proofs.lemmas.Result.{err_from_is_err_and}
use Rattle.sequence_header.proofs.Groups.{colour_pass, colour_pass_none, colour_pass_custom}
use Rattle.std.proofs.lemmas.Bool.{ne_eqb}
use Rattle.field_rows.proofs.Reading.{then_ok, then_err, read-done}
use Rattle.sequence_header.proofs.Readings.{then_as}
use Rattle.sequence_header.specs.Header.{colour_rows}
use Rattle.sequence_header.proofs.reading.colour.Goals as goal

pub returns-in_err-flag-clause-read : goal.returns-in_err-flag-clause-read
unfolding colour_rows
returns-in_err-flag-clause-read c =
    let p = err_from_is_err_and c.from_residual.result c.from_residual.ensures.1 in
    rw (p.1, p.2) (then_err _ _ _ _ _ c.in_err-flag.ensures)

pub returns-in_err-flag-clause-passes : goal.returns-in_err-flag-clause-passes
returns-in_err-flag-clause-passes c =
    let p = err_from_is_err_and c.from_residual.result c.from_residual.ensures.1 in
    rw p.1 tt

pub returns-in_err-index-clause-read : goal.returns-in_err-index-clause-read
unfolding colour_rows
returns-in_err-index-clause-read c =
    let p = err_from_is_err_and c.from_residual-in_err-index.result c.from_residual-in_err-index.ensures.1 in
    rw (p.1, p.2) (then_as _ _ _ _ _ _ _ _ c.in_ok-flag.ensures c.if-not-branch.false (then_err _ _ _ _ _ c.in_err-index.ensures))

pub returns-in_err-index-clause-passes : goal.returns-in_err-index-clause-passes
returns-in_err-index-clause-passes c =
    let p = err_from_is_err_and c.from_residual-in_err-index.result c.from_residual-in_err-index.ensures.1 in
    rw p.1 tt

pub returns-in_err-primaries-clause-read : goal.returns-in_err-primaries-clause-read
unfolding colour_rows
returns-in_err-primaries-clause-read c =
    let p = err_from_is_err_and c.from_residual-in_err-primaries.result c.from_residual-in_err-primaries.ensures.1 in
    rw (p.1, p.2) (then_as _ _ _ _ _ _ _ _ c.in_ok-flag.ensures c.if-not-branch.false (then_as _ _ _ _ _ _ _ _ c.in_ok-index.ensures c.if-index-ne0.false (then_err _ _ _ _ _ c.in_err-primaries.ensures.read)))

pub returns-in_err-primaries-clause-passes : goal.returns-in_err-primaries-clause-passes
returns-in_err-primaries-clause-passes c =
    let p = err_from_is_err_and c.from_residual-in_err-primaries.result c.from_residual-in_err-primaries.ensures.1 in
    rw p.1 tt

pub returns-in_err-matrix-clause-read : goal.returns-in_err-matrix-clause-read
unfolding colour_rows
returns-in_err-matrix-clause-read c =
    let p = err_from_is_err_and c.from_residual-in_err-matrix.result c.from_residual-in_err-matrix.ensures.1 in
    rw (p.1, p.2) (then_as _ _ _ _ _ _ _ _ c.in_ok-flag.ensures c.if-not-branch.false (then_as _ _ _ _ _ _ _ _ c.in_ok-index.ensures c.if-index-ne0.false (then_ok _ _ _ _ _ _ _ c.in_ok-primaries.ensures.read (then_err _ _ _ _ _ c.in_err-matrix.ensures.read))))

pub returns-in_err-matrix-clause-passes : goal.returns-in_err-matrix-clause-passes
returns-in_err-matrix-clause-passes c =
    let p = err_from_is_err_and c.from_residual-in_err-matrix.result c.from_residual-in_err-matrix.ensures.1 in
    rw p.1 tt

pub returns-in_err-transfer-clause-read : goal.returns-in_err-transfer-clause-read
unfolding colour_rows
returns-in_err-transfer-clause-read c =
    let p = err_from_is_err_and c.from_residual-in_err-transfer.result c.from_residual-in_err-transfer.ensures.1 in
    rw (p.1, p.2) (then_as _ _ _ _ _ _ _ _ c.in_ok-flag.ensures c.if-not-branch.false (then_as _ _ _ _ _ _ _ _ c.in_ok-index.ensures c.if-index-ne0.false (then_ok _ _ _ _ _ _ _ c.in_ok-primaries.ensures.read (then_ok _ _ _ _ _ _ _ c.in_ok-matrix.ensures.read (then_err _ _ _ _ _ c.in_err-transfer.ensures.read)))))

pub returns-in_err-transfer-clause-passes : goal.returns-in_err-transfer-clause-passes
returns-in_err-transfer-clause-passes c =
    let p = err_from_is_err_and c.from_residual-in_err-transfer.result c.from_residual-in_err-transfer.ensures.1 in
    rw p.1 tt

pub returns-then-not-branch-clause-read : goal.returns-then-not-branch-clause-read
unfolding colour_rows
returns-then-not-branch-clause-read c = then_as _ _ _ _ _ _ _ _ c.in_ok-flag.ensures c.if-not-branch.true (read-done _ _ _)

pub returns-then-not-branch-clause-passes : goal.returns-then-not-branch-clause-passes
returns-then-not-branch-clause-passes c = colour_pass_none

pub returns-then-index-ne0-clause-read : goal.returns-then-index-ne0-clause-read
unfolding colour_rows
returns-then-index-ne0-clause-read c = then_as _ _ _ _ _ _ _ _ c.in_ok-flag.ensures c.if-not-branch.false (then_ok _ _ _ _ _ _ _ c.in_ok-index.ensures (rw (ne_eqb c.in_ok-index.index 0 c.if-index-ne0.true) (read-done _ _ _)))

pub returns-then-index-ne0-clause-passes : goal.returns-then-index-ne0-clause-passes
returns-then-index-ne0-clause-passes c = colour_pass c.in_ok-index.index (omega arith)

pub returns-clause-read : goal.returns-clause-read
unfolding colour_rows
returns-clause-read c = then_as _ _ _ _ _ _ _ _ c.in_ok-flag.ensures c.if-not-branch.false (then_as _ _ _ _ _ _ _ _ c.in_ok-index.ensures c.if-index-ne0.false (then_ok _ _ _ _ _ _ _ c.in_ok-primaries.ensures.read (then_ok _ _ _ _ _ _ _ c.in_ok-matrix.ensures.read (then_ok _ _ _ _ _ _ _ c.in_ok-transfer.ensures.read (read-done _ _ _)))))

pub returns-clause-passes : goal.returns-clause-passes
returns-clause-passes c = colour_pass_custom c.in_ok-primaries.primaries c.in_ok-matrix.matrix c.in_ok-transfer.transfer c.in_ok-primaries.ensures.passes c.in_ok-matrix.ensures.passes c.in_ok-transfer.ensures.passes
