-- What the check of a unit's next offset reads, and the payload of the first sequence header.
use Rattle.std.proofs.Common.{◌≡◌, ℕ, ◌+◌, ◌-◌, ◌*◌, ◌/◌, ◌≤◌, List, [], ◌∷◌, length, drop, Option, Some, None, Result, Ok, Err, arith, ap, ◌∙◌, sym, refl, add-zero}
use Rattle.bit_codes.specs.Bits.{Cursor, cursor_at, bits_of}
use Rattle.field_rows.specs.Rows.{◌or_else◌, done, ◌>>=◌, renamed, Fault, read, and_then, reading_unless, first_broken}
use Rattle.field_rows.specs.Moved.{moved_answer, renamed_answer}
use Rattle.field_rows.proofs.Reading.{read-bind, read-done, then_ok, then_err}
use Rattle.field_rows.proofs.Words.{split-bits, read-check_at}
use Rattle.field_rows.proofs.Moves.{read-renamed, read-moved}
use Rattle.sequence_header.specs.declared.parts.HeaderParts.{HeaderParts}
use Rattle.sequence_header.specs.declared.parts.HeaderReason.{HeaderReason}
use Rattle.sequence_header.specs.Header.{header_rows}
use Rattle.sequence_header.specs.Header as header
use Rattle.sequence_header.proofs.Movable.{header_movable}
use Rattle.run_theory.specs.Grammar.{bytes_at}
use Rattle.stream_rows.specs.declared.reason.Reason.{Reason}
use Rattle.stream_rows.specs.declared.reason.Reason.TheVariants as reasons
use Rattle.stream_rows.specs.Units.{Past, Sequence, reason_of, header_reason, next_checked, first_payload, leads_behind}
use Rattle.stream_rows.proofs.Whole.{header_names}

-- ---- the check of the next offset, behind so many bytes of a unit

pub read-next_checked : (z : Past) (next n : ℕ) (bytes : List ℕ)
    → read reason_of (next_checked z next) (bytes_at (z.place + n) bytes) ≡ reading_unless (8 * (z.place + 5)) (first_broken ((leads_behind next n or_else reasons.OffsetWrong) ∷ [])) (Ok (8 * (z.place + n), bytes_at (z.place + n) bytes))
unfolding next_checked
read-next_checked z next n bytes =
    let size : 8 * (z.place + n) / 8 - z.place ≡ n = omega arith in
    read-check_at reason_of (8 * (z.place + 5)) (λ here. (leads_behind next (here / 8 - z.place) or_else reasons.OffsetWrong) ∷ []) (bytes_at (z.place + n) bytes)
    ∙ ap (λ m. reading_unless (8 * (z.place + 5)) (first_broken ((leads_behind next m or_else reasons.OffsetWrong) ∷ [])) (Ok (8 * (z.place + n), bytes_at (z.place + n) bytes))) size

judged_then : {A B : Type 0} (place : ℕ) (broken : Option Reason) (a : A) (f : A → Result B (Fault Reason)) → and_then (reading_unless place broken (Ok a)) f ≡ reading_unless place broken (f a)
judged_then place None a f = refl
judged_then place (Some reason) a f = refl

-- and the unit behind it
pub read-checked_unit : {A : Type 0} (z : Past) (next n : ℕ) (unit : A) (bytes : List ℕ)
    → read reason_of (next_checked z next >>= λ length. done unit) (bytes_at (z.place + n) bytes) ≡ reading_unless (8 * (z.place + 5)) (first_broken ((leads_behind next n or_else reasons.OffsetWrong) ∷ [])) (Ok (unit, bytes_at (z.place + n) bytes))
read-checked_unit z next n unit bytes =
    let broken = first_broken ((leads_behind next n or_else reasons.OffsetWrong) ∷ []) in
    read-bind reason_of (next_checked z next) (λ length. done unit) (bytes_at (z.place + n) bytes)
    ∙ ap (λ r. and_then r (λ x. read reason_of (done unit) x.1)) (read-next_checked z next n bytes)
    ∙ judged_then (8 * (z.place + 5)) broken (8 * (z.place + n), bytes_at (z.place + n) bytes) (λ x. read reason_of (done unit) x.1)
    ∙ ap (reading_unless (8 * (z.place + 5)) broken) (read-done reason_of unit (bytes_at (z.place + n) bytes))

-- ---- the payload of the first sequence header

pub header_behind : (place : ℕ) (bytes : List ℕ) → read reason_of (renamed header_reason header_rows) (bytes_at place bytes) ≡ renamed_answer header_reason (moved_answer place (read header.reason_of header_rows (cursor_at bytes 0)))
header_behind place bytes =
    read-renamed header_reason header.reason_of reason_of header_names header_rows (bytes_at place bytes)
    ∙ ap (λ n. renamed_answer header_reason (read header.reason_of header_rows (record { place = n; rest = bits_of bytes }))) (sym (add-zero (8 * place)))
    ∙ ap (renamed_answer header_reason) (read-moved header.reason_of header_rows place (cursor_at bytes 0) header_movable.movable)

-- it is refused
pub payload_refused : (z : Past) (next bit : ℕ) (reason : HeaderReason) (bytes : List ℕ) → read header.reason_of header_rows (cursor_at bytes 0) ≡ Err (record { place = bit; reason = reason })
    → read reason_of (first_payload z next) (bytes_at (z.place + 13) bytes) ≡ Err (record { place = 8 * (z.place + 13) + bit; reason = header_reason reason })
unfolding first_payload
payload_refused z next bit reason bytes h =
    then_err reason_of (renamed header_reason header_rows) (λ parts. next_checked z next >>= λ length. done (Sequence parts)) (bytes_at (z.place + 13) bytes) (record { place = 8 * (z.place + 13) + bit; reason = header_reason reason })
    (header_behind (z.place + 13) bytes ∙ ap (λ r. renamed_answer header_reason (moved_answer (z.place + 13) r)) h)

-- it stands in so many bytes
pub payload_is : (z : Past) (next len : ℕ) (parts : HeaderParts) (bytes : List ℕ) → read header.reason_of header_rows (cursor_at bytes 0) ≡ Ok (parts, cursor_at bytes (8 * len)) → len ≤ length bytes
    → read reason_of (first_payload z next) (bytes_at (z.place + 13) bytes) ≡ reading_unless (8 * (z.place + 5)) (first_broken ((leads_behind next (13 + len) or_else reasons.OffsetWrong) ∷ [])) (Ok (Sequence parts, bytes_at (z.place + (13 + len)) (drop len bytes)))
unfolding first_payload
payload_is z next len parts bytes h le =
    then_ok reason_of (renamed header_reason header_rows) (λ parts. next_checked z next >>= λ length. done (Sequence parts)) (bytes_at (z.place + 13) bytes) (bytes_at (z.place + (13 + len)) (drop len bytes)) parts _
    (header_behind (z.place + 13) bytes ∙ ap (λ r. renamed_answer header_reason (moved_answer (z.place + 13) r)) h
    ∙ ap (λ n. Ok (parts, record { place = n; rest = drop (8 * len) (bits_of bytes) })) (omega arith)
    ∙ ap (λ l. Ok (parts, record { place = 8 * (z.place + (13 + len)); rest = l })) (split-bits len bytes le).1)
    (read-checked_unit z next (13 + len) (Sequence parts) (drop len bytes))
