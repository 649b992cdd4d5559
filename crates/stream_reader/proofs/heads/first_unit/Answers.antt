use Rattle.std.proofs.Common.{◌≡◌, ℕ, ◌+◌, ◌/◌, ◌*◌, ◌≤◌, List, length, Ok, Err, sym, ap, subst, ◌∙◌}
use Rattle.std.proofs.lemmas.List.{take_rest}
use Rattle.std.proofs.lemmas.Result.{err_from_is_err_and}
use Rattle.bit_codes.specs.Bits.{cursor_at}
use Rattle.field_rows.specs.Rows.{read}
use Rattle.sequence_header.specs.Header.{reason_of, header_rows, header_fault}
use Rattle.stream_rows.specs.declared.reason.Reason.{Reason}
use Rattle.stream_rows.specs.Units.{Past, unit_head}
use Rattle.stream_reader.specs.Heads.{HeadAt, IsFirstUnit}
use Rattle.stream_reader.proofs.HeadRows.{first_head_refused, first_payload_refused, first_offset_refused, first_is}
use Rattle.stream_reader.proofs.heads.first_unit.Goals as goal

pub returns-in_err-info : goal.returns-in_err-info
returns-in_err-info c =
    let bytes = c.args.bytes.now in
    let p = err_from_is_err_and c.from_residual.result c.from_residual.ensures.1 in
    subst (λ r. IsFirstUnit bytes r) (sym (p.1 ∙ ap Err p.2)) (first_head_refused bytes c.in_err-info.field-0.0 (subst (λ (z : Past). HeadAt (unit_head z) z.place bytes (Err c.in_err-info.field-0.0)) c.new.ensures c.in_err-info.ensures))

pub slice_bounds-read-count : goal.slice_bounds-read-count
slice_bounds-read-count c = c.in_ok-info.ensures.0

pub slice_bounds-read-start : goal.slice_bounds-read-start
slice_bounds-read-start c = c.in_ok-info.ensures.0

pub returns-in-Err : goal.returns-in-Err
returns-in-Err c =
    let bytes = c.args.bytes.now in
    let h = subst (λ (l : List ℕ). read reason_of header_rows (cursor_at l 0) ≡ Err (header_fault c.in-Err.fault)) (take_rest bytes 13) c.in-Err.ensures.exact in
    subst (λ (r : Reason). IsFirstUnit bytes (Err (record { place = 13 + c.in-Err.fault.bit / 8; reason = r }))) (sym c.header_reason.ensures)
    (first_payload_refused bytes c.in_ok-info.info c.in-Err.fault.bit c.in-Err.fault.reason (subst (λ (z : Past). HeadAt (unit_head z) z.place bytes (Ok c.in_ok-info.info)) c.new.ensures c.in_ok-info.ensures) h)

pub returns-then-not-leads_behind : goal.returns-then-not-leads_behind
returns-then-not-leads_behind c =
    let bytes = c.args.bytes.now in
    let x = c.in-Ok.read in
    let h = subst (λ (l : List ℕ). read reason_of header_rows (cursor_at l 0) ≡ Ok (x.0, cursor_at l (8 * x.1))) (take_rest bytes 13) c.in-Ok.ensures.exact.0 in
    let le = subst (λ (l : List ℕ). x.1 ≤ length l) (take_rest bytes 13) c.in-Ok.ensures.exact.1 in
    first_offset_refused bytes c.in_ok-info.info x.0 x.1 (subst (λ (z : Past). HeadAt (unit_head z) z.place bytes (Ok c.in_ok-info.info)) c.new.ensures c.in_ok-info.ensures) h le (sym c.if-not-leads_behind.ensures)

pub returns : goal.returns
returns c =
    let bytes = c.args.bytes.now in
    let x = c.in-Ok.read in
    let h = subst (λ (l : List ℕ). read reason_of header_rows (cursor_at l 0) ≡ Ok (x.0, cursor_at l (8 * x.1))) (take_rest bytes 13) c.in-Ok.ensures.exact.0 in
    let le = subst (λ (l : List ℕ). x.1 ≤ length l) (take_rest bytes 13) c.in-Ok.ensures.exact.1 in
    first_is bytes c.in_ok-info.info x.0 x.1 (subst (λ (z : Past). HeadAt (unit_head z) z.place bytes (Ok c.in_ok-info.info)) c.new.ensures c.in_ok-info.ensures) h le (sym c.if-not-leads_behind.ensures)
