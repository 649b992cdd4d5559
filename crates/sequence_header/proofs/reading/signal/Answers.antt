use Rattle.std.proofs.Common.{arith}
use Rattle.std.proofs.lemmas.Result.{err_from_is_err_and}
use Rattle.sequence_header.proofs.Groups.{signal_pass, signal_pass_custom}
use Rattle.std.proofs.lemmas.Bool.{ne_eqb}
use Rattle.field_rows.proofs.Reading.{then_ok, then_err, read-done}
use Rattle.sequence_header.proofs.Readings.{then_as}
use Rattle.sequence_header.specs.Header.{signal_rows, excursion}
use Rattle.sequence_header.proofs.reading.signal.Goals as goal

pub returns-in_err-flag_set-clause-read : goal.returns-in_err-flag_set-clause-read
unfolding signal_rows excursion
returns-in_err-flag_set-clause-read c =
    let p = err_from_is_err_and c.from_residual.result c.from_residual.ensures.1 in
    rw (p.1, p.2) (then_err _ _ _ _ _ c.in_err-flag_set.ensures)

pub returns-in_err-flag_set-clause-passes : goal.returns-in_err-flag_set-clause-passes
returns-in_err-flag_set-clause-passes c =
    let p = err_from_is_err_and c.from_residual.result c.from_residual.ensures.1 in
    rw p.1 tt

pub returns-in_err-index-clause-read : goal.returns-in_err-index-clause-read
unfolding signal_rows excursion
returns-in_err-index-clause-read c =
    let p = err_from_is_err_and c.from_residual-in_err-index.result c.from_residual-in_err-index.ensures.1 in
    rw (p.1, p.2) (then_ok _ _ _ _ _ _ _ c.in_ok-flag_set.ensures (then_err _ _ _ _ _ c.in_err-index.ensures.read))

pub returns-in_err-index-clause-passes : goal.returns-in_err-index-clause-passes
returns-in_err-index-clause-passes c =
    let p = err_from_is_err_and c.from_residual-in_err-index.result c.from_residual-in_err-index.ensures.1 in
    rw p.1 tt

pub returns-in_err-luma_offset-clause-read : goal.returns-in_err-luma_offset-clause-read
unfolding signal_rows excursion
returns-in_err-luma_offset-clause-read c =
    let p = err_from_is_err_and c.from_residual-in_err-luma_offset.result c.from_residual-in_err-luma_offset.ensures.1 in
    rw (p.1, p.2) (then_ok _ _ _ _ _ _ _ c.in_ok-flag_set.ensures (then_as _ _ _ _ _ _ _ _ c.in_ok-index.ensures.read c.if-index-ne0.false (then_err _ _ _ _ _ c.in_err-luma_offset.ensures)))

pub returns-in_err-luma_offset-clause-passes : goal.returns-in_err-luma_offset-clause-passes
returns-in_err-luma_offset-clause-passes c =
    let p = err_from_is_err_and c.from_residual-in_err-luma_offset.result c.from_residual-in_err-luma_offset.ensures.1 in
    rw p.1 tt

pub returns-in_err-luma_excursion-clause-read : goal.returns-in_err-luma_excursion-clause-read
unfolding signal_rows excursion
returns-in_err-luma_excursion-clause-read c =
    let p = err_from_is_err_and c.from_residual-in_err-luma_excursion.result c.from_residual-in_err-luma_excursion.ensures.1 in
    rw (p.1, p.2) (then_ok _ _ _ _ _ _ _ c.in_ok-flag_set.ensures (then_as _ _ _ _ _ _ _ _ c.in_ok-index.ensures.read c.if-index-ne0.false (then_ok _ _ _ _ _ _ _ c.in_ok-luma_offset.ensures (then_err _ _ _ _ _ c.in_err-luma_excursion.ensures.read))))

pub returns-in_err-luma_excursion-clause-passes : goal.returns-in_err-luma_excursion-clause-passes
returns-in_err-luma_excursion-clause-passes c =
    let p = err_from_is_err_and c.from_residual-in_err-luma_excursion.result c.from_residual-in_err-luma_excursion.ensures.1 in
    rw p.1 tt

pub returns-in_err-colour_offset-clause-read : goal.returns-in_err-colour_offset-clause-read
unfolding signal_rows excursion
returns-in_err-colour_offset-clause-read c =
    let p = err_from_is_err_and c.from_residual-in_err-colour_offset.result c.from_residual-in_err-colour_offset.ensures.1 in
    rw (p.1, p.2) (then_ok _ _ _ _ _ _ _ c.in_ok-flag_set.ensures (then_as _ _ _ _ _ _ _ _ c.in_ok-index.ensures.read c.if-index-ne0.false (then_ok _ _ _ _ _ _ _ c.in_ok-luma_offset.ensures (then_ok _ _ _ _ _ _ _ c.in_ok-luma_excursion.ensures.read (then_err _ _ _ _ _ c.in_err-colour_offset.ensures)))))

pub returns-in_err-colour_offset-clause-passes : goal.returns-in_err-colour_offset-clause-passes
returns-in_err-colour_offset-clause-passes c =
    let p = err_from_is_err_and c.from_residual-in_err-colour_offset.result c.from_residual-in_err-colour_offset.ensures.1 in
    rw p.1 tt

pub returns-in_err-colour_excursion-clause-read : goal.returns-in_err-colour_excursion-clause-read
unfolding signal_rows excursion
returns-in_err-colour_excursion-clause-read c =
    let p = err_from_is_err_and c.from_residual-in_err-colour_excursion.result c.from_residual-in_err-colour_excursion.ensures.1 in
    rw (p.1, p.2) (then_ok _ _ _ _ _ _ _ c.in_ok-flag_set.ensures (then_as _ _ _ _ _ _ _ _ c.in_ok-index.ensures.read c.if-index-ne0.false (then_ok _ _ _ _ _ _ _ c.in_ok-luma_offset.ensures (then_ok _ _ _ _ _ _ _ c.in_ok-luma_excursion.ensures.read (then_ok _ _ _ _ _ _ _ c.in_ok-colour_offset.ensures (then_err _ _ _ _ _ c.in_err-colour_excursion.ensures.read))))))

pub returns-in_err-colour_excursion-clause-passes : goal.returns-in_err-colour_excursion-clause-passes
returns-in_err-colour_excursion-clause-passes c =
    let p = err_from_is_err_and c.from_residual-in_err-colour_excursion.result c.from_residual-in_err-colour_excursion.ensures.1 in
    rw p.1 tt

pub returns-then-index-ne0-clause-read : goal.returns-then-index-ne0-clause-read
unfolding signal_rows excursion
returns-then-index-ne0-clause-read c = then_ok _ _ _ _ _ _ _ c.in_ok-flag_set.ensures (then_ok _ _ _ _ _ _ _ c.in_ok-index.ensures.read (rw (ne_eqb c.in_ok-index.index 0 c.if-index-ne0.true) (read-done _ _ _)))

pub returns-then-index-ne0-clause-passes : goal.returns-then-index-ne0-clause-passes
returns-then-index-ne0-clause-passes c = signal_pass c.in_ok-index.index (omega arith) c.in_ok-index.ensures.range.1

pub returns-clause-read : goal.returns-clause-read
unfolding signal_rows excursion
returns-clause-read c = then_ok _ _ _ _ _ _ _ c.in_ok-flag_set.ensures (then_as _ _ _ _ _ _ _ _ c.in_ok-index.ensures.read c.if-index-ne0.false (then_ok _ _ _ _ _ _ _ c.in_ok-luma_offset.ensures (then_ok _ _ _ _ _ _ _ c.in_ok-luma_excursion.ensures.read (then_ok _ _ _ _ _ _ _ c.in_ok-colour_offset.ensures (then_ok _ _ _ _ _ _ _ c.in_ok-colour_excursion.ensures.read (read-done _ _ _))))))

pub returns-clause-passes : goal.returns-clause-passes
returns-clause-passes c = signal_pass_custom _ c.in_ok-luma_excursion.ensures.range.0 c.in_ok-luma_excursion.ensures.range.1
    c.in_ok-colour_excursion.ensures.range.0 c.in_ok-colour_excursion.ensures.range.1
