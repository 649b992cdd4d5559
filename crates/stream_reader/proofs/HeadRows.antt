-- What the rows of a head and of the first unit read.
use Rattle.std.proofs.Common.{◌≡◌, ℕ, ◌+◌, ◌-◌, ◌*◌, ◌/◌, ◌<◌, ◌≤◌, List, [], ◌∷◌, length, drop, Option, Some, None, Result, Ok, Err, Bool, true, false, IsTrue, arith, ap, ◌∙◌, sym, refl, subst, add-zero}
use Rattle.std.specs.Prelude.{◌==◌, ◌||◌, ◌&&◌, ◌%◌, not, is_some, OnOk, IfErr}
use Rattle.std.proofs.lemmas.List.{drop-drop, length-drop}
use Rattle.bit_codes.specs.Bits.{Cursor, cursor_at, bits_of}
use Rattle.field_rows.specs.Rows.{Rows, ◌or_else◌, done, ◌>>=◌, renamed, Fault, read, and_then, reading_unless, first_broken}
use Rattle.field_rows.specs.Moved.{moved_answer, renamed_answer}
use Rattle.field_rows.proofs.Reading.{read-bind, read-done, then_ok, then_err}
use Rattle.field_rows.proofs.Words.{IsBytes, split-bits, read-check_at}
use Rattle.field_rows.proofs.Moves.{read-renamed, read-moved}
use Rattle.parse_info.specs.declared.Code.{Code}
use Rattle.parse_info.specs.declared.ParseInfo.{ParseInfo}
use Rattle.parse_info.specs.declared.InfoFault.{InfoFault}
use Rattle.parse_info.specs.declared.InfoFault.TheVariants as faults
use Rattle.parse_info.specs.Head.{info_at, is_short}
use Rattle.parse_info.proofs.Told.{Reader, told, read-told}
use Rattle.sequence_header.specs.declared.parts.HeaderParts.{HeaderParts}
use Rattle.sequence_header.specs.declared.parts.HeaderReason.{HeaderReason}
use Rattle.sequence_header.specs.Header.{header_rows}
use Rattle.sequence_header.specs.Header as header
use Rattle.sequence_header.proofs.Movable.{header_movable}
use Rattle.run_theory.specs.Grammar.{bytes_at, unit_at}
use Rattle.stream_rows.specs.declared.reason.Reason.{Reason}
use Rattle.stream_rows.specs.declared.reason.Reason.TheVariants as reasons
use Rattle.stream_rows.specs.Refusals.{Refusal}
use Rattle.stream_rows.specs.Streams.{refusal_of}
use Rattle.stream_rows.specs.Units.{First, Past, nothing_yet, DataUnit, Sequence, reason_of, header_reason, is_header, is_end_code, has_fields, code_rules, previous_rules, begins_later, next_rules, unit_head, next_checked, first_payload, payload_rows, unit_rows, units, leads_behind}
use Rattle.stream_reader.specs.Heads.{coding_of, looking_back, are_fields, passes, code_rules_behind, previous_rules_behind, judged_head, HeadAt, IsFirstUnit}
use Rattle.stream_rows.proofs.CheckedRows.{payload_refused, payload_is}

-- ---- a head

abbrev pub head_reader : Past → Reader Reason
head_reader z = record { reason_of = reason_of; bad_prefix = reasons.BadPrefix; unsupported = reasons.UnsupportedCode; code_rules = code_rules z; next_rules = next_rules; previous_rules = λ code next previous. previous_rules z previous }

pub thirteen : (bytes : List ℕ) → drop 4 (drop 4 (drop 1 (drop 4 bytes))) ≡ drop 13 bytes
thirteen bytes = ap (λ l. drop 4 (drop 4 l)) (drop-drop 1 4 bytes) ∙ ap (drop 4) (drop-drop 4 5 bytes) ∙ drop-drop 4 9 bytes

-- what its rows read, from what `ParseInfo::read` answers
head_told : (z : Past) (bytes : List ℕ) → IsBytes bytes → read reason_of (unit_head z) (bytes_at z.place bytes) ≡ told (head_reader z) (8 * z.place) (bytes_at (z.place + 13) (drop 13 bytes)) (info_at bytes)
unfolding unit_head
head_told z bytes fits =
    read-told (head_reader z) (8 * z.place) bytes fits
    ∙ ap (λ n. told (head_reader z) (8 * z.place) (record { place = n; rest = bits_of (drop 4 (drop 4 (drop 1 (drop 4 bytes)))) }) (info_at bytes)) (omega arith)
    ∙ ap (λ l. told (head_reader z) (8 * z.place) (bytes_at (z.place + 13) l) (info_at bytes)) (thirteen bytes)

-- the rules on a code, by what the head looks back at
same_header : (first : Option First) → is_some (coding_of first) ≡ is_some first
same_header None = refl
same_header (Some first) = refl

same_fields : (first : Option First) → are_fields (coding_of first) ≡ has_fields first
same_fields None = refl
same_fields (Some first) = refl

same_rules : (z : Past) (code : Code) → first_broken (code_rules z code) ≡ first_broken (code_rules_behind (looking_back z) code)
same_rules z code = rw (same_header z.first, same_fields z.first) refl

same_previous : (z : Past) (previous : ℕ) → first_broken (previous_rules z previous) ≡ first_broken (previous_rules_behind (looking_back z) previous)
same_previous z previous = rw (same_header z.first) refl

-- no rule's reason is that of a short field
code_not_short : (header whole : Bool) → first_broken ((header or_else reasons.NoSequenceHeader) ∷ (whole or_else reasons.HalfFrame) ∷ []) ≡ Some reasons.Truncated → ⊥
code_not_short true true e = cc
code_not_short true false e = cc
code_not_short false whole e = cc

next_not_short : (long same : Bool) → first_broken ((long or_else reasons.OffsetShort) ∷ (same or_else reasons.OffsetWrong) ∷ []) ≡ Some reasons.Truncated → ⊥
next_not_short true true e = cc
next_not_short true false e = cc
next_not_short false same e = cc

previous_not_short : (same : Bool) → first_broken ((same or_else reasons.PreviousWrong) ∷ []) ≡ Some reasons.Truncated → ⊥
previous_not_short true e = cc
previous_not_short false e = cc

-- what is answered of a reading
abbrev pub Tells : List ℕ → Cursor → Result (ParseInfo × Cursor) (Fault Reason) → Result ParseInfo Refusal → Type 0
Tells bytes behind (Ok x) (Ok info) = (13 ≤ length bytes) × (x ≡ (info, behind))
Tells bytes behind (Err fault) (Err refusal) = (refusal ≡ refusal_of fault) × (fault.reason ≡ reasons.Truncated → length bytes < 13)
Tells bytes behind (Ok x) (Err refusal) = ⊥
Tells bytes behind (Err fault) (Ok info) = ⊥

pub tells_judged : (bytes : List ℕ) (behind : Cursor) (bit place : ℕ) (broken : Option Reason) (r : Result (ParseInfo × Cursor) (Fault Reason)) (s : Result ParseInfo Refusal) → place ≡ bit / 8 → (broken ≡ Some reasons.Truncated → ⊥) → Tells bytes behind r s
    → Tells bytes behind (reading_unless bit broken r) (and_then (passes place broken) (λ checked. s))
tells_judged bytes behind bit place None r s at other h = h
tells_judged bytes behind bit place (Some reason) r s at other h = (ap (λ n. record { place = n; reason = reason }) at, λ e. absurd (other (ap Some e)))

pub tells_fault : (bytes : List ℕ) (behind : Cursor) (bit place : ℕ) (reason : Reason) → place ≡ bit / 8 → (reason ≡ reasons.Truncated → length bytes < 13) → Tells bytes behind (Err (record { place = bit; reason = reason })) (Err (record { place = place; reason = reason }))
tells_fault bytes behind bit place reason at short = (ap (λ n. record { place = n; reason = reason }) at, short)

tells_code : (z : Past) (bytes : List ℕ) (behind : Cursor) (code : Code) (r : Result (ParseInfo × Cursor) (Fault Reason)) (s : Result ParseInfo Refusal) → Tells bytes behind r s
    → Tells bytes behind (reading_unless (8 * z.place + 32) (first_broken (code_rules z code)) r) (and_then (passes (z.place + 4) (first_broken (code_rules_behind (looking_back z) code))) (λ checked. s))
tells_code z bytes behind code r s h =
    subst (λ (broken : Option Reason). Tells bytes behind (reading_unless (8 * z.place + 32) (first_broken (code_rules z code)) r) (and_then (passes (z.place + 4) broken) (λ checked. s))) (same_rules z code)
    (tells_judged bytes behind (8 * z.place + 32) (z.place + 4) (first_broken (code_rules z code)) r s (omega arith) (code_not_short (is_some z.first || is_header code) (not (is_end_code code && has_fields z.first && z.pictures % 2 == 1))) h)

tells_next : (z : Past) (bytes : List ℕ) (behind : Cursor) (code : Code) (next : ℕ) (r : Result (ParseInfo × Cursor) (Fault Reason)) (s : Result ParseInfo Refusal) → Tells bytes behind r s
    → Tells bytes behind (reading_unless (8 * z.place + 32 + 8) (first_broken (next_rules code next)) r) (and_then (passes (z.place + 5) (first_broken (next_rules code next))) (λ checked. s))
tells_next z bytes behind code next r s h = tells_judged bytes behind (8 * z.place + 32 + 8) (z.place + 5) (first_broken (next_rules code next)) r s (omega arith) (next_not_short _ _) h

tells_previous : (z : Past) (bytes : List ℕ) (behind : Cursor) (previous : ℕ) (r : Result (ParseInfo × Cursor) (Fault Reason)) (s : Result ParseInfo Refusal) → Tells bytes behind r s
    → Tells bytes behind (reading_unless (8 * z.place + 32 + 8 + 32) (first_broken (previous_rules z previous)) r) (and_then (passes (z.place + 9) (first_broken (previous_rules_behind (looking_back z) previous))) (λ checked. s))
tells_previous z bytes behind previous r s h =
    subst (λ (broken : Option Reason). Tells bytes behind (reading_unless (8 * z.place + 32 + 8 + 32) (first_broken (previous_rules z previous)) r) (and_then (passes (z.place + 9) broken) (λ checked. s))) (same_previous z previous)
    (tells_judged bytes behind (8 * z.place + 32 + 8 + 32) (z.place + 9) (first_broken (previous_rules z previous)) r s (omega arith) (previous_not_short (previous == z.previous || (begins_later z && previous == 0))) h)

tells_info : (z : Past) (bytes : List ℕ) (behind : Cursor) (info : ParseInfo) → 13 ≤ length bytes → Tells bytes behind (told (head_reader z) (8 * z.place) behind (Ok info)) (judged_head (looking_back z) (Ok info))
tells_info z bytes behind info long =
    tells_code z bytes behind info.code _ _
    (tells_next z bytes behind info.code info.next _ _
    (tells_previous z bytes behind info.previous (Ok (info, behind)) (Ok info) (long, refl)))

tells_short : (z : Past) (bytes : List ℕ) (behind : Cursor) (fault : InfoFault) → (IsTrue (is_short fault) → length bytes < 13) → Tells bytes behind (told (head_reader z) (8 * z.place) behind (Err fault)) (judged_head (looking_back z) (Err fault))
tells_short z bytes behind faults.PrefixShort short = tells_fault bytes behind (8 * z.place) z.place reasons.Truncated (omega arith) (λ e. short refl)
tells_short z bytes behind faults.BadPrefix short = tells_fault bytes behind (8 * z.place) z.place reasons.BadPrefix (omega arith) (λ e. cc)
tells_short z bytes behind faults.CodeShort short = tells_fault bytes behind (8 * z.place + 32) (z.place + 4) reasons.Truncated (omega arith) (λ e. short refl)
tells_short z bytes behind (faults.UnsupportedCode code) short = tells_fault bytes behind (8 * z.place + 32) (z.place + 4) (reasons.UnsupportedCode code) (omega arith) (λ e. cc)
tells_short z bytes behind (faults.NextShort code) short =
    tells_code z bytes behind code _ _ (tells_fault bytes behind (8 * z.place + 32 + 8) (z.place + 5) reasons.Truncated (omega arith) (λ e. short refl))
tells_short z bytes behind (faults.PreviousShort code next) short =
    tells_code z bytes behind code _ _
    (tells_next z bytes behind code next _ _ (tells_fault bytes behind (8 * z.place + 32 + 8 + 32) (z.place + 9) reasons.Truncated (omega arith) (λ e. short refl)))

pub tells_head : (rows : Rows Reason ParseInfo) (place : ℕ) (bytes : List ℕ) (r : Result (ParseInfo × Cursor) (Fault Reason)) (s : Result ParseInfo Refusal) → read reason_of rows (bytes_at place bytes) ≡ r → Tells bytes (bytes_at (place + 13) (drop 13 bytes)) r s → HeadAt rows place bytes s
tells_head rows place bytes (Ok x) (Ok info) e h = (h.0, e ∙ ap Ok h.1)
tells_head rows place bytes (Err fault) (Err refusal) e h = (fault, h.0, e, h.1)
tells_head rows place bytes (Ok x) (Err refusal) e h = absurd h
tells_head rows place bytes (Err fault) (Ok info) e h = absurd h

pub head_is : (z : Past) (bytes : List ℕ) (found : Result ParseInfo InfoFault) → IsBytes bytes → info_at bytes ≡ found → OnOk found (13 ≤ length bytes) → IfErr found (λ fault. IsTrue (is_short fault) → length bytes < 13)
    → HeadAt (unit_head z) z.place bytes (judged_head (looking_back z) found)
head_is z bytes (Ok info) fits e long short =
    let behind = bytes_at (z.place + 13) (drop 13 bytes) in
    tells_head (unit_head z) z.place bytes _ _ (head_told z bytes fits ∙ ap (told (head_reader z) (8 * z.place) behind) e) (tells_info z bytes behind info long)
head_is z bytes (Err fault) fits e long short =
    let behind = bytes_at (z.place + 13) (drop 13 bytes) in
    tells_head (unit_head z) z.place bytes _ _ (head_told z bytes fits ∙ ap (told (head_reader z) (8 * z.place) behind) e) (tells_short z bytes behind fault short)

-- ---- the first unit

pub first_head_refused : (bytes : List ℕ) (refusal : Refusal) → HeadAt (unit_head nothing_yet) nothing_yet.place bytes (Err refusal) → IsFirstUnit bytes (Err refusal)
unfolding unit_rows
first_head_refused bytes refusal h = (h.0, h.1, then_err reason_of (unit_head nothing_yet) (payload_rows nothing_yet None) (bytes_at 0 bytes) h.0 h.2)

first_then : (bytes : List ℕ) (info : ParseInfo) (total : Result (DataUnit × Cursor) (Fault Reason)) → HeadAt (unit_head nothing_yet) nothing_yet.place bytes (Ok info) → read reason_of (first_payload nothing_yet info.next) (bytes_at 13 (drop 13 bytes)) ≡ total → unit_at units nothing_yet bytes ≡ total
unfolding unit_rows payload_rows
first_then bytes info total h e = then_ok reason_of (unit_head nothing_yet) (payload_rows nothing_yet None) (bytes_at 0 bytes) (bytes_at 13 (drop 13 bytes)) info total h.1 e

pub first_payload_refused : (bytes : List ℕ) (info : ParseInfo) (bit : ℕ) (reason : HeaderReason) → HeadAt (unit_head nothing_yet) nothing_yet.place bytes (Ok info) → read header.reason_of header_rows (cursor_at (drop 13 bytes) 0) ≡ Err (record { place = bit; reason = reason })
    → IsFirstUnit bytes (Err (record { place = 13 + bit / 8; reason = header_reason reason }))
first_payload_refused bytes info bit reason h e = (
  record { place = 104 + bit; reason = header_reason reason },
  ap (λ n. record { place = n; reason = header_reason reason }) (omega arith),
  first_then bytes info _ h (payload_refused nothing_yet info.next bit reason (drop 13 bytes) e),
)

pub first_offset_refused : (bytes : List ℕ) (info : ParseInfo) (parts : HeaderParts) (len : ℕ) → HeadAt (unit_head nothing_yet) nothing_yet.place bytes (Ok info) → read header.reason_of header_rows (cursor_at (drop 13 bytes) 0) ≡ Ok (parts, cursor_at (drop 13 bytes) (8 * len)) → len ≤ length (drop 13 bytes)
    → leads_behind info.next (13 + len) ≡ false → IsFirstUnit bytes (Err (record { place = 5; reason = reasons.OffsetWrong }))
first_offset_refused bytes info parts len h e le leads = (
  record { place = 40; reason = reasons.OffsetWrong },
  refl,
  first_then bytes info _ h (payload_is nothing_yet info.next len parts (drop 13 bytes) e le
      ∙ ap (λ b. reading_unless 40 (first_broken ((b or_else reasons.OffsetWrong) ∷ [])) (Ok (Sequence parts, bytes_at (0 + (13 + len)) (drop len (drop 13 bytes))))) leads),
)

pub first_is : (bytes : List ℕ) (info : ParseInfo) (parts : HeaderParts) (len : ℕ) → HeadAt (unit_head nothing_yet) nothing_yet.place bytes (Ok info) → read header.reason_of header_rows (cursor_at (drop 13 bytes) 0) ≡ Ok (parts, cursor_at (drop 13 bytes) (8 * len)) → len ≤ length (drop 13 bytes)
    → leads_behind info.next (13 + len) ≡ true → IsFirstUnit bytes (Ok (parts, 13 + len))
first_is bytes info parts len h e le leads = (
  omega (arith, le, length-drop 13 bytes, h.0),
  first_then bytes info _ h (payload_is nothing_yet info.next len parts (drop 13 bytes) e le
      ∙ ap (λ b. reading_unless 40 (first_broken ((b or_else reasons.OffsetWrong) ∷ [])) (Ok (Sequence parts, bytes_at (0 + (13 + len)) (drop len (drop 13 bytes))))) leads
      ∙ ap (λ n. Ok (Sequence parts, bytes_at n (drop len (drop 13 bytes)))) (omega arith)
      ∙ ap (λ l. Ok (Sequence parts, bytes_at (13 + len) l)) (drop-drop len 13 bytes)),
)
