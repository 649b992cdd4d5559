-- The parts of the units that are written, each in front of the rows that follow it.
use Rattle.std.proofs.Common.{◌≡◌, ℕ, ◌+◌, ◌*◌, ◌^◌, ◌<◌, Bool, true, false, List, [], ◌∷◌, ◌++◌, length, take, drop, None, Ok, refl, sym, ap, subst, ◌∙◌, append_assoc, append-nil, arith}
use Rattle.std.specs.Prelude.{◌==◌, ◌&&◌, ◌||◌}
use Rattle.std.specs.List.{concat}
use Rattle.std.proofs.Math.Seq.{take-length}
use Rattle.std.proofs.lemmas.Bool.{eq-eqb}
use Rattle.std.proofs.lemmas.List.{length-append, drop_at}
use Rattle.bit_codes.specs.Bits.{cursor_at}
use Rattle.field_rows.specs.Rows.{◌or_else◌, Rows, done, ◌>>=◌, bytes_under, word_under, byte_under, renamed, read, first_broken, reading_unless}
use Rattle.field_rows.specs.Given.{value_bits}
use Rattle.field_rows.proofs.Reading.{read-done}
use Rattle.field_rows.proofs.Filled.{length-filled}
use Rattle.parse_info.specs.declared.Code.{Code}
use Rattle.parse_info.specs.declared.ParseInfo.{ParseInfo}
use Rattle.parse_info.specs.Head.{head_rows, head_bytes}
use Rattle.sequence_header.specs.declared.parts.HeaderParts.{HeaderParts}
use Rattle.sequence_header.specs.Bytes.{header_bits, header_len, header_bytes}
use Rattle.sequence_header.specs.Checking as checking
use Rattle.sequence_header.proofs.WroteText.{header_back}
use Rattle.transform_params.specs.Params as params
use Rattle.transform_params.specs.Params.{Params, params_rows}
use Rattle.transform_params.specs.ParameterFields as written_params
use Rattle.transform_params.specs.ParameterFields.{byte_length, params_bytes, AreLawfulParams}
use Rattle.transform_params.proofs.WrittenBack.{written_back}
use Rattle.run_theory.specs.Grammar.{bytes_at}
use Rattle.run_theory.specs.Begun.{Moves}
use Rattle.run_theory.proofs.Fields.{moves_row}
use Rattle.stream_rows.specs.declared.reason.Reason.{Reason}
use Rattle.stream_rows.specs.declared.reason.Reason.TheVariants as reasons
use Rattle.stream_rows.specs.Units.{Past, DataUnit, Sequence, reason_of, transform_reason, code_rules, next_rules, begins_later, previous_rules, unit_head, next_checked, first_payload, slice_rows, slice_rules, share, units, leads_behind}
use Rattle.stream_rows.proofs.Groups.{group_moves}
use Rattle.stream_rows.proofs.UnitGroups.{params_group}
use Rattle.stream_rows.proofs.CheckedRows.{payload_is, read-checked_unit}
use Rattle.stream_writer.specs.EncodedStream.{AreSlices}
use Rattle.stream_writer.proofs.EncodedPieces.{moves_then, moves_none, moves_word, moves_bytes, moves_code}

-- ---- the head

prefix_row : (at : ℕ) (next : Rows Reason DataUnit) → Moves units (word_under (λ v. (v == 0x42424344 or_else reasons.BadPrefix) ∷ []) >>= λ prefix. next) at (0x42 ∷ 0x42 ∷ 0x43 ∷ 0x44 ∷ []) next
unfolding word_under ◌>>=◌
prefix_row at next = moves_row units 4 _ _ at (0x42 ∷ 0x42 ∷ 0x43 ∷ 0x44 ∷ []) refl (omega arith, (omega arith, (omega arith, (omega arith, tt)))) refl

pub true_previous : (z : Past) (previous : ℕ) → previous ≡ z.previous → first_broken (previous_rules z previous) ≡ None
true_previous z previous same = rw (eq-eqb previous z.previous same) refl

-- where a later sequence begins
pub no_previous : (z : Past) → begins_later z ≡ true → first_broken (previous_rules z 0) ≡ None
no_previous z later = by (0 == z.previous) (begins_later z) later
  where
    by : (same later : Bool) → later ≡ true → first_broken (((same || (later && true)) or_else reasons.PreviousWrong) ∷ []) ≡ None
    by true true e = refl
    by false true e = refl
    by same false e = absurd cc

pub moves_head : (z : Past) (code : Code) (next previous : ℕ) (payload : ParseInfo → Rows Reason DataUnit) → next < 2 ^ 32 → previous < 2 ^ 32 → first_broken (code_rules z code) ≡ None → first_broken (next_rules code next) ≡ None → first_broken (previous_rules z previous) ≡ None
    → let info : ParseInfo = record { code = code; next = next; previous = previous } in Moves units (unit_head z >>= payload) z.place (head_bytes info) (payload info)
unfolding unit_head head_rows word_under byte_under ◌>>=◌
moves_head z code next previous payload next_fits previous_fits code_holds next_holds previous_holds =
    let info : ℕ → ℕ → ParseInfo = λ next previous. record { code = code; next = next; previous = previous } in
    moves_then units _ _ _ z.place (z.place + 4) _ _ refl (prefix_row z.place _)
    (moves_then units _ _ _ (z.place + 4) (z.place + 5) _ _ (omega arith)
    (moves_code units reasons.UnsupportedCode (code_rules z) (λ code. word_under (next_rules code) >>= λ next. word_under (previous_rules z) >>= λ previous. payload (record { code = code; next = next; previous = previous })) (z.place + 4) code code_holds)
    (moves_then units _ _ _ (z.place + 5) (z.place + 9) _ _ (omega arith)
    (moves_word units (next_rules code) (λ next. word_under (previous_rules z) >>= λ previous. payload (info next previous)) (z.place + 5) next next_fits next_holds)
    (moves_word units (previous_rules z) (λ previous. payload (info next previous)) (z.place + 9) previous previous_fits previous_holds)))

-- ---- the check of the next offset

leads : (n : ℕ) → leads_behind n n ≡ true
leads n = by (n == 0) (n == n) (eq-eqb n n refl)
  where
    by : (none same : Bool) → same ≡ true → (none || same) ≡ true
    by true same e = refl
    by false same e = e

pub moves_checked : (z : Past) (n : ℕ) (unit : DataUnit) → Moves units (next_checked z n >>= λ length. done unit) (z.place + n) [] (done unit)
moves_checked z n unit = record {
  moves = λ more.
      read-checked_unit z n n unit more
      ∙ ap (λ b. reading_unless (8 * (z.place + 5)) (first_broken ((b or_else reasons.OffsetWrong) ∷ [])) (Ok (unit, bytes_at (z.place + n) more))) (leads n)
      ∙ sym (read-done reason_of unit (bytes_at (z.place + n) more)) ∙ ap (λ p. read reason_of (done unit) (bytes_at p more)) (omega arith);
}

-- ---- the sequence header

pub moves_header : (z : Past) (parts : HeaderParts) → checking.IsLawfulHeader parts → Moves units (first_payload z (13 + header_len parts)) (z.place + 13) (header_bytes parts) (done (Sequence parts))
moves_header z parts f = record {
  moves = λ more.
      let piece = header_bytes parts in
      let long : length piece ≡ header_len parts = length-filled (header_bits parts) in
      payload_is z (13 + header_len parts) (length piece) parts (piece ++ more) (header_back parts f more) (omega (arith, length-append piece more))
      ∙ ap (λ n. reading_unless (8 * (z.place + 5)) (first_broken ((leads_behind (13 + header_len parts) (13 + n) or_else reasons.OffsetWrong) ∷ [])) (Ok (Sequence parts, bytes_at (z.place + (13 + length piece)) (drop (length piece) (piece ++ more))))) long
      ∙ ap (λ b. reading_unless (8 * (z.place + 5)) (first_broken ((b or_else reasons.OffsetWrong) ∷ [])) (Ok (Sequence parts, bytes_at (z.place + (13 + length piece)) (drop (length piece) (piece ++ more))))) (leads (13 + header_len parts))
      ∙ ap (λ l. Ok (Sequence parts, bytes_at (z.place + (13 + length piece)) l)) (drop_at piece more (length piece) refl)
      ∙ ap (λ p. Ok (Sequence parts, bytes_at p more)) (omega arith)
      ∙ sym (read-done reason_of (Sequence parts) (bytes_at (z.place + 13 + length piece) more));
}

-- ---- the transform parameters

pub moves_params : (p : Params) (next : Params → Rows Reason DataUnit) (at : ℕ) → AreLawfulParams p → Moves units (renamed transform_reason params_rows >>= next) at (params_bytes p) (next p)
moves_params p next at f =
    let piece = params_bytes p in
    let long : length piece ≡ byte_length p = length-filled (value_bits (written_params.fields_of p)) in
    let read_back = subst (λ l. read params.reason_of params_rows (cursor_at l 0) ≡ Ok (p, cursor_at l (8 * byte_length p))) (append-nil piece) (written_back p [] f) in
    subst (λ l. Moves units (renamed transform_reason params_rows >>= next) at l (next p)) (ap (λ n. take n piece) (sym long) ∙ take-length piece) (group_moves params_group next at piece p (byte_length p) read_back (omega (arith, long)))

-- ---- the slices

pub moves_slices : (parts : HeaderParts) (p : Params) (slices so_far : List (List ℕ)) (next : List (List ℕ) → Rows Reason DataUnit) (at : ℕ) → AreSlices parts p (length so_far) slices
    → Moves units (slice_rows parts p (length slices) so_far >>= next) at (concat slices) (next (so_far ++ slices))
unfolding slice_rows bytes_under ◌>>=◌
moves_slices parts p [] so_far next at f = subst (λ l. Moves units (next so_far) at [] (next l)) (sym (append-nil so_far)) (moves_none units (next so_far) at)
moves_slices parts p (slice ∷ slices) so_far next at f =
    let longer : length (so_far ++ slice ∷ []) ≡ length so_far + 1 = omega (arith, length-append so_far (slice ∷ [])) in
    let others = moves_slices parts p slices (so_far ++ slice ∷ []) next (at + length slice) (subst (λ n. AreSlices parts p n slices) (sym longer) f.1) in
    moves_then units _ _ _ at (at + length slice) slice (concat slices) refl
    (moves_bytes units (share p (length so_far)) (slice_rules parts p (length so_far)) (λ slice. slice_rows parts p (length slices) (so_far ++ slice ∷ []) >>= next) at slice f.0.many f.0.fit f.0.passes)
    (subst (λ l. Moves units (slice_rows parts p (length slices) (so_far ++ slice ∷ []) >>= next) (at + length slice) (concat slices) (next l)) (append_assoc so_far (slice ∷ []) slices) others)
