use Rattle.std.proofs.Common.{ℕ, List, Result, Ok, ap, ◌∙◌, ◌≡◌, ◌<◌, take, length, arith}
use Rattle.std.proofs.lemmas.Result.{err_from_is_err_and}
use Rattle.std.proofs.lemmas.List.{take_more_set, length-set}
use Rattle.field_rows.specs.Rows.{Fault, read, numbers}
use Rattle.bit_codes.specs.Bits.{Cursor}
use Rattle.transform_params.specs.declared.faults.TransformReason.{TransformReason}
use Rattle.field_rows.proofs.Counted.{goes_on, ends_at, is_done}
use Rattle.transform_params.specs.Params.{reason_of, params_fault}
use Rattle.transform_params.proofs.reading.entries.Goals as goal

pub returns-in_err-entries : goal.returns-in_err-entries
returns-in_err-entries c =
    let p = err_from_is_err_and c.from_residual.result c.from_residual.ensures.1 in
    let l = c.loop-i in
    rw (p.1, p.2) (ends_at reason_of (take l.i l.entries) c.args.count l.i l.r (params_fault c.in_err-entries.field-0.0) (read reason_of (numbers c.args.count) c.args.r.now) c.loop-i-test.true c.in_err-entries.ensures l.invariant.so_far)

pub loop-i-preserved : goal.loop-i-preserved
loop-i-preserved c =
    let l = c.loop-i in
    let n = c.in_ok-entries.field-0 in
    let lt : l.i < length l.entries = omega (arith, l.invariant.room, c.requires) in
    record {
      so_far = rw (take_more_set l.entries l.i n lt) (goes_on reason_of (take l.i l.entries) c.args.count l.i n l.r c.number.new.r (read reason_of (numbers c.args.count) c.args.r.now) c.loop-i-test.true c.in_ok-entries.ensures l.invariant.so_far);
      room = omega (arith, length-set l.entries l.i n, l.invariant.room);
    }

pub returns : goal.returns
returns c =
    let l = c.loop-i in
    let all : l.i ≡ c.args.count = omega (arith, c.loop-i-test.false, l.auto.i-end) in
    is_done reason_of (take l.i l.entries) c.args.count l.i l.r (read reason_of (numbers c.args.count) c.args.r.now) c.loop-i-test.false l.invariant.so_far
    ∙ ap (λ (n : ℕ). let r : Result (List ℕ × Cursor) (Fault TransformReason) = Ok (take n l.entries, l.r) in r) all
