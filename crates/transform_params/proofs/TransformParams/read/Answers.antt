use Rattle.std.proofs.Common.{◌≡◌, Ok, Err, ap, subst, ◌∙◌}
use Rattle.std.proofs.lemmas.Result.{err_from_is_err_and}
use Rattle.bit_codes.specs.Bits.{Cursor, cursor_at}
use Rattle.field_rows.specs.Rows.{read}
use Rattle.field_rows.proofs.Pieces.{read-whole, read-whole_err}
use Rattle.std.proofs.Common.{arith}
use Rattle.bit_codes.proofs.BitLemmas.{length-bits}
use Rattle.field_rows.proofs.Within.{read-within_bits}
use Rattle.transform_params.proofs.Movable.{params_movable}
use Rattle.transform_params.specs.Params.{reason_of, params_fault, params_fields, params_rows}
use Rattle.transform_params.specs.Views.{params_of}
use Rattle.transform_params.proofs.TransformParams.read.Goals as goal

pub returns-in_err-found-clause-exact : goal.returns-in_err-found-clause-exact
unfolding params_rows
returns-in_err-found-clause-exact c =
    let p = err_from_is_err_and c.from_residual.result c.from_residual.ensures.1 in
    rw (p.1, p.2) (read-whole_err reason_of params_fields _ _ (subst (λ (x : Cursor). read reason_of params_fields x ≡ Err (params_fault c.in_err-found.field-0.0)) c.new-r.ensures c.in_err-found.ensures))

pub returns-clause-exact : goal.returns-clause-exact
unfolding params_rows
returns-clause-exact c =
    let e = subst (λ (x : Cursor). read reason_of params_fields x ≡ Ok (params_of c.in_ok-found.found, c.params.new.r)) c.new-r.ensures c.in_ok-found.ensures in
    let f = read-whole reason_of params_fields c.args.bytes.now (params_of c.in_ok-found.found) c.params.new.r e in
    let at = c.place.ensures ∙ ap (λ (x : Cursor). x.place) c.align.ensures in
    rw at f

pub returns-in_err-found-clause-within : goal.returns-in_err-found-clause-within
unfolding params_rows
returns-in_err-found-clause-within c =
    let p = err_from_is_err_and c.from_residual.result c.from_residual.ensures.1 in
    let e = read-whole_err reason_of params_fields _ _ (subst (λ (x : Cursor). read reason_of params_fields x ≡ Err (params_fault c.in_err-found.field-0.0)) c.new-r.ensures c.in_err-found.ensures) in
    rw (p.1, p.2) (omega (arith, read-within_bits reason_of params_rows (cursor_at c.args.bytes.now 0) (params_fault c.in_err-found.field-0.0) params_movable.movable e, length-bits c.args.bytes.now))
