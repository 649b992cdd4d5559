-- What the rows of a unit's beginning read, from what the functions of the code answer.
use Rattle.std.proofs.Common.{◌≡◌, ℕ, ◌+◌, ◌*◌, ◌/◌, ◌%◌, ◌^◌, ◌<◌, ◌≤◌, Bool, true, false, List, [], ◌∷◌, ◌++◌, length, take, drop, Some, None, Result, Ok, Err, refl, sym, ap, subst, ◌∙◌, arith}
use Rattle.std.specs.Prelude.{nat_eq, ◌==◌, ◌&&◌, ◌||◌, not}
use Rattle.std.specs.List.{starts_with}
use Rattle.std.specs.Int.{w32, from_be_bytes}
use Rattle.std.proofs.lemmas.List.{length-take, length-drop, take-append-drop, drop-drop}
use Rattle.bit_codes.specs.Bits.{Cursor, cursor_at, bits_of}
use Rattle.field_rows.specs.Rows.{◌or_else◌, Rows, done, ◌>>=◌, bytes_under, word_under, renamed, read, Fault, reading_unless, first_broken, bytes_in}
use Rattle.field_rows.specs.Moved.{moved_answer, renamed_answer}
use Rattle.field_rows.proofs.Reading.{read-done, then_ok, then_err}
use Rattle.field_rows.proofs.Words.{split-bits}
use Rattle.sequence_header.specs.declared.parts.HeaderParts.{HeaderParts}
use Rattle.sequence_header.specs.declared.parts.HeaderReason.{HeaderReason}
use Rattle.sequence_header.specs.Header as header
use Rattle.sequence_header.specs.Header.{header_rows}
use Rattle.transform_params.specs.declared.faults.TransformReason.{TransformReason}
use Rattle.transform_params.specs.Params as params
use Rattle.transform_params.specs.Params.{Params, params_rows}
use Rattle.run_theory.specs.Grammar.{Grammar, Inner, bytes_at}
use Rattle.run_theory.proofs.Fields.{moves_row, short_row, broken_row}
use Rattle.stream_rows.specs.declared.reason.Reason.{Reason}
use Rattle.stream_rows.specs.declared.reason.Reason.TheVariants as reasons
use Rattle.stream_rows.specs.Refusals.{Refusal}
use Rattle.stream_rows.specs.Units.{Past, First, is_truncated, reason_of, header_reason, transform_reason, has_fields, number_rules, next_checked, unit_head, leads_behind}
use Rattle.stream_rows.proofs.LongestHeader.{header_cut, header_most}
use Rattle.stream_rows.proofs.LongestParams.{params_cut, params_most}
use Rattle.stream_reader.specs.Heads.{HeadAt}
use Rattle.parse_info.specs.declared.Code.{Code}
use Rattle.parse_info.specs.declared.ParseInfo.{ParseInfo}
use Rattle.stream_cut.specs.Opening.{Opened, OpensSequence, OpensRepeated, OpensPicture, open_first, open_repeated, open_picture, open_payload_of, open_payload, open_rows, IsOpened, OpensBy}
use Rattle.stream_cut.specs.declared.opening.Opening.{Opening}
use Rattle.stream_cut.proofs.Fields.{IsBytes, fit_take}
use Rattle.stream_rows.proofs.UnitGroups.{params_group}
use Rattle.stream_cut.proofs.ParamsRead.{group_read}
use Rattle.stream_rows.proofs.CheckedRows.{header_behind, read-checked_unit}

abbrev Answer : Type 0
Answer = Result (Opening × ℕ) Refusal

-- the units that only begin
openings_of : Grammar Past Reason Opened
openings_of = record {
  reason_of = reason_of;
  is_short = is_truncated;
  rows = open_rows;
  place = λ z. z.place;
  after = λ z opened bytes. z;
  behind = λ opened. Inner;
  rests = λ z. false;
}

-- a fault of a byte's place
fault_at : (z : Past) (rows : Rows Reason Opened) (base : ℕ) (bytes : List ℕ) (bit place : ℕ) (reason : Reason) (result : Answer) → read reason_of rows (bytes_at (z.place + base) bytes) ≡ Err (record { place = bit; reason = reason }) → place ≡ bit / 8 → (reason ≡ reasons.Truncated → base + length bytes < 620)
    → result ≡ Err (record { place = place; reason = reason }) → OpensBy z rows base bytes result
fault_at z rows base bytes bit place reason result e at short is =
    subst (OpensBy z rows base bytes) (sym is) (record { place = bit; reason = reason }, ap (λ p. record { place = p; reason = reason }) at, e, short)

-- ---- a sequence's first header

first_read : (z : Past) (next : ℕ) (bytes : List ℕ) (parts : HeaderParts) (len : ℕ) → read header.reason_of header_rows (cursor_at bytes 0) ≡ Ok (parts, cursor_at bytes (8 * len)) → len ≤ length bytes
    → read reason_of (open_first z next) (bytes_at (z.place + 13) bytes) ≡ reading_unless (8 * (z.place + 5)) (first_broken ((leads_behind next (13 + len) or_else reasons.OffsetWrong) ∷ [])) (Ok (OpensSequence parts, bytes_at (z.place + (13 + len)) (drop len bytes)))
unfolding open_first
first_read z next bytes parts len h le =
    then_ok reason_of (renamed header_reason header_rows) (λ parts. next_checked z next >>= λ length. done (OpensSequence parts)) (bytes_at (z.place + 13) bytes) (bytes_at (z.place + (13 + len)) (drop len bytes)) parts _
    (header_behind (z.place + 13) bytes ∙ ap (λ r. renamed_answer header_reason (moved_answer (z.place + 13) r)) h
    ∙ ap (λ n. Ok (parts, record { place = n; rest = drop (8 * len) (bits_of bytes) })) (omega arith)
    ∙ ap (λ l. Ok (parts, record { place = 8 * (z.place + (13 + len)); rest = l })) (split-bits len bytes le).1)
    (read-checked_unit z next (13 + len) (OpensSequence parts) (drop len bytes))

first_fault : (z : Past) (next bit : ℕ) (reason : HeaderReason) (bytes : List ℕ) → read header.reason_of header_rows (cursor_at bytes 0) ≡ Err (record { place = bit; reason = reason })
    → read reason_of (open_first z next) (bytes_at (z.place + 13) bytes) ≡ Err (record { place = 8 * (z.place + 13) + bit; reason = header_reason reason })
unfolding open_first
first_fault z next bit reason bytes h =
    then_err reason_of (renamed header_reason header_rows) (λ parts. next_checked z next >>= λ length. done (OpensSequence parts)) (bytes_at (z.place + 13) bytes) (record { place = 8 * (z.place + 13) + bit; reason = header_reason reason })
    (header_behind (z.place + 13) bytes ∙ ap (λ r. renamed_answer header_reason (moved_answer (z.place + 13) r)) h)

pub first_refused : (z : Past) (next place bit : ℕ) (reason : HeaderReason) (named : Reason) (bytes : List ℕ) (result : Answer) → z.place ≡ place → read header.reason_of header_rows (cursor_at bytes 0) ≡ Err (record { place = bit; reason = reason }) → named ≡ header_reason reason
    → result ≡ Err (record { place = place + 13 + bit / 8; reason = named }) → OpensBy z (open_first z next) 13 bytes result
first_refused z next place bit reason named bytes result at h name is =
    fault_at z (open_first z next) 13 bytes (8 * (z.place + 13) + bit) (place + 13 + bit / 8) (header_reason reason) result (first_fault z next bit reason bytes h) (omega (arith, at))
    (λ e. omega (arith, header_cut bytes bit reason h (ap is_truncated e))) (is ∙ ap (λ r. Err (record { place = place + 13 + bit / 8; reason = r })) name)

pub first_offset : (z : Past) (next place len : ℕ) (parts : HeaderParts) (bytes : List ℕ) (result : Answer) → z.place ≡ place → read header.reason_of header_rows (cursor_at bytes 0) ≡ Ok (parts, cursor_at bytes (8 * len)) → len ≤ length bytes → leads_behind next (13 + len) ≡ false
    → result ≡ Err (record { place = place + 5; reason = reasons.OffsetWrong }) → OpensBy z (open_first z next) 13 bytes result
first_offset z next place len parts bytes result at h le leads is =
    fault_at z (open_first z next) 13 bytes (8 * (z.place + 5)) (place + 5) reasons.OffsetWrong result
    (first_read z next bytes parts len h le ∙ ap (λ b. reading_unless (8 * (z.place + 5)) (first_broken ((b or_else reasons.OffsetWrong) ∷ [])) (Ok (OpensSequence parts, bytes_at (z.place + (13 + len)) (drop len bytes)))) leads)
    (omega (arith, at)) (λ e. absurd cc) is

pub first_stands : (z : Past) (next place len : ℕ) (parts : HeaderParts) (bytes : List ℕ) → read header.reason_of header_rows (cursor_at bytes 0) ≡ Ok (parts, cursor_at bytes (8 * len)) → len ≤ length bytes → leads_behind next (13 + len) ≡ true
    → (opened : Opened) × (size : ℕ) × (opened ≡ OpensSequence parts) × (13 + len ≡ 13 + size) × (size ≤ length bytes) × ((13 ≤ 13 + size) × (13 + size ≤ 525)) × (read reason_of (open_first z next) (bytes_at (z.place + 13) bytes) ≡ Ok (opened, bytes_at (z.place + 13 + size) (drop size bytes)))
first_stands z next place len parts bytes h le leads = (
  OpensSequence parts,
  len,
  refl,
  refl,
  le,
  (omega arith, omega (arith, header_most bytes parts len h le)),
  first_read z next bytes parts len h le ∙ ap (λ b. reading_unless (8 * (z.place + 5)) (first_broken ((b or_else reasons.OffsetWrong) ∷ [])) (Ok (OpensSequence parts, bytes_at (z.place + (13 + len)) (drop len bytes)))) leads
      ∙ ap (λ n. Ok (OpensSequence parts, bytes_at n (drop len bytes))) (omega arith),
)

-- ---- a repeated header

repeated_short : (z : Past) (next place : ℕ) (first : First) (bytes : List ℕ) (result : Answer) → z.place ≡ place → length first.payload ≤ 512 → length bytes < length first.payload → result ≡ Err (record { place = place + 13; reason = reasons.Truncated }) → OpensBy z (open_repeated z next first) 13 bytes result
unfolding open_repeated ◌>>=◌ bytes_under openings_of
repeated_short z next place first bytes result at most short is =
    fault_at z (open_repeated z next first) 13 bytes (8 * (z.place + 13)) (place + 13) reasons.Truncated result (short_row openings_of (length first.payload) _ _ (z.place + 13) bytes short) (omega (arith, at)) (λ e. omega (arith, short, most)) is

repeated_differs : (z : Past) (next place : ℕ) (first : First) (bytes piece : List ℕ) (result : Answer) → z.place ≡ place → length first.payload ≤ length bytes → piece ≡ take (length first.payload) bytes → IsBytes bytes → starts_with nat_eq piece first.payload ≡ false
    → result ≡ Err (record { place = place + 13; reason = reasons.HeaderDiffers }) → OpensBy z (open_repeated z next first) 13 bytes result
unfolding open_repeated ◌>>=◌ bytes_under openings_of
repeated_differs z next place first bytes piece result at long same fits differs is =
    let n = length first.payload in
    let size : length piece ≡ n = omega (arith, ap (λ (l : List ℕ). length l) same, length-take n bytes, long) in
    fault_at z (open_repeated z next first) 13 bytes (8 * (z.place + 13)) (place + 13) reasons.HeaderDiffers result
    (ap (λ l. read reason_of (open_repeated z next first) (bytes_at (z.place + 13) l)) (sym (ap (λ l. l ++ drop n bytes) same ∙ take-append-drop n bytes))
    ∙ broken_row openings_of n _ _ (z.place + 13) piece (drop n bytes) reasons.HeaderDiffers size (subst IsBytes (sym same) (fit_take n bytes fits)) (rw differs refl))
    (omega (arith, at)) (λ e. absurd cc) is

repeated_read : (z : Past) (next : ℕ) (first : First) (bytes piece : List ℕ) → length first.payload ≤ length bytes → piece ≡ take (length first.payload) bytes → IsBytes bytes → starts_with nat_eq piece first.payload ≡ true
    → (let n = length first.payload in read reason_of (open_repeated z next first) (bytes_at (z.place + 13) bytes) ≡ reading_unless (8 * (z.place + 5)) (first_broken ((leads_behind next (13 + n) or_else reasons.OffsetWrong) ∷ [])) (Ok (OpensRepeated, bytes_at (z.place + (13 + n)) (drop n bytes))))
unfolding open_repeated ◌>>=◌ bytes_under openings_of
repeated_read z next first bytes piece long same fits equal =
    let n = length first.payload in
    let size : length piece ≡ n = omega (arith, ap (λ (l : List ℕ). length l) same, length-take n bytes, long) in
    ap (λ l. read reason_of (open_repeated z next first) (bytes_at (z.place + 13) l)) (sym (ap (λ l. l ++ drop n bytes) same ∙ take-append-drop n bytes))
    ∙ (moves_row openings_of n _ (λ v. next_checked z next >>= λ length. done OpensRepeated) (z.place + 13) piece size (subst IsBytes (sym same) (fit_take n bytes fits)) (rw equal refl)).moves (drop n bytes)
    ∙ ap (λ m. read reason_of (next_checked z next >>= λ length. done OpensRepeated) (bytes_at m (drop n bytes))) (omega (arith, size))
    ∙ read-checked_unit z next (13 + n) OpensRepeated (drop n bytes)

repeated_offset : (z : Past) (next place : ℕ) (first : First) (bytes piece : List ℕ) (result : Answer) → z.place ≡ place → length first.payload ≤ length bytes → piece ≡ take (length first.payload) bytes → IsBytes bytes → starts_with nat_eq piece first.payload ≡ true
    → leads_behind next (13 + length first.payload) ≡ false → result ≡ Err (record { place = place + 5; reason = reasons.OffsetWrong }) → OpensBy z (open_repeated z next first) 13 bytes result
repeated_offset z next place first bytes piece result at long same fits equal leads is =
    let n = length first.payload in
    fault_at z (open_repeated z next first) 13 bytes (8 * (z.place + 5)) (place + 5) reasons.OffsetWrong result
    (repeated_read z next first bytes piece long same fits equal ∙ ap (λ b. reading_unless (8 * (z.place + 5)) (first_broken ((b or_else reasons.OffsetWrong) ∷ [])) (Ok (OpensRepeated, bytes_at (z.place + (13 + n)) (drop n bytes)))) leads)
    (omega (arith, at)) (λ e. absurd cc) is

repeated_stands : (z : Past) (next : ℕ) (first : First) (bytes piece : List ℕ) → length first.payload ≤ 512 → length first.payload ≤ length bytes → piece ≡ take (length first.payload) bytes → IsBytes bytes → starts_with nat_eq piece first.payload ≡ true
    → leads_behind next (13 + length first.payload) ≡ true → (len : ℕ) → len ≡ length first.payload
    → (opened : Opened) × (size : ℕ) × (opened ≡ OpensRepeated) × (13 + len ≡ 13 + size) × (size ≤ length bytes) × ((13 ≤ 13 + size) × (13 + size ≤ 525)) × (read reason_of (open_repeated z next first) (bytes_at (z.place + 13) bytes) ≡ Ok (opened, bytes_at (z.place + 13 + size) (drop size bytes)))
repeated_stands z next first bytes piece most long same fits equal leads len is_len =
    let n = length first.payload in (
      OpensRepeated,
      n,
      refl,
      omega (arith, is_len),
      long,
      (omega arith, omega (arith, most)),
      repeated_read z next first bytes piece long same fits equal ∙ ap (λ b. reading_unless (8 * (z.place + 5)) (first_broken ((b or_else reasons.OffsetWrong) ∷ [])) (Ok (OpensRepeated, bytes_at (z.place + (13 + n)) (drop n bytes)))) leads
          ∙ ap (λ m. Ok (OpensRepeated, bytes_at m (drop n bytes))) (omega arith),
    )

-- the same of the payload that the code has
module _ (z : Past) (next place : ℕ) (first : First) (payload bytes : List ℕ) (at : z.place ≡ place) (e : payload ≡ first.payload) (most : length payload ≤ 512) where
  pub header_short : (result : Answer) → length bytes < length payload → result ≡ Err (record { place = place + 13; reason = reasons.Truncated }) → OpensBy z (open_repeated z next first) 13 bytes result
  header_short result short is = repeated_short z next place first bytes result at (subst (λ l. length l ≤ 512) e most) (subst (λ l. length bytes < length l) e short) is

  module _ (fits : IsBytes bytes) (long : length payload ≤ length bytes) where
    there : length first.payload ≤ length bytes
    there = subst (λ l. length l ≤ length bytes) e long

    starts : (b : Bool) → starts_with nat_eq (take (length payload) bytes) payload ≡ b → starts_with nat_eq (take (length first.payload) bytes) first.payload ≡ b
    starts b h = subst (λ l. starts_with nat_eq (take (length l) bytes) l ≡ b) e h

    pub header_differs : (result : Answer) → starts_with nat_eq (take (length payload) bytes) payload ≡ false → result ≡ Err (record { place = place + 13; reason = reasons.HeaderDiffers }) → OpensBy z (open_repeated z next first) 13 bytes result
    header_differs result h is = repeated_differs z next place first bytes (take (length first.payload) bytes) result at there refl fits (starts false h) is

    pub header_offset : (result : Answer) → starts_with nat_eq (take (length payload) bytes) payload ≡ true → leads_behind next (13 + length payload) ≡ false → result ≡ Err (record { place = place + 5; reason = reasons.OffsetWrong }) → OpensBy z (open_repeated z next first) 13 bytes result
    header_offset result h leads is = repeated_offset z next place first bytes (take (length first.payload) bytes) result at there refl fits (starts true h) (subst (λ l. leads_behind next (13 + length l) ≡ false) e leads) is

    pub header_stands : starts_with nat_eq (take (length payload) bytes) payload ≡ true → leads_behind next (13 + length payload) ≡ true
        → (opened : Opened) × (size : ℕ) × (opened ≡ OpensRepeated) × (13 + length payload ≡ 13 + size) × (size ≤ length bytes) × ((13 ≤ 13 + size) × (13 + size ≤ 525)) × (read reason_of (open_repeated z next first) (bytes_at (z.place + 13) bytes) ≡ Ok (opened, bytes_at (z.place + 13 + size) (drop size bytes)))
    header_stands h leads = repeated_stands z next first bytes (take (length first.payload) bytes) (subst (λ l. length l ≤ 512) e most) there refl fits (starts true h) (subst (λ l. leads_behind next (13 + length l) ≡ true) e leads) (length payload) (ap (λ (l : List ℕ). length l) e)

-- ---- a picture

behind_number : (z : Past) (next : ℕ) (parts : HeaderParts) (bytes piece : List ℕ) → IsBytes bytes → 4 ≤ length bytes → piece ≡ take 4 bytes → first_broken (number_rules z (from_be_bytes w32 piece)) ≡ None
    → read reason_of (open_picture z next parts) (bytes_at (z.place + 13) bytes) ≡ read reason_of (renamed transform_reason params_rows >>= λ p. done (OpensPicture parts (from_be_bytes w32 piece) p next)) (bytes_at (z.place + 17) (drop 4 bytes))
unfolding open_picture ◌>>=◌ word_under openings_of
behind_number z next parts bytes piece fits long same holds =
    let size : length piece ≡ 4 = omega (arith, ap (λ (l : List ℕ). length l) same, length-take 4 bytes, long) in
    let rest : ℕ → Rows Reason Opened = λ number. renamed transform_reason params_rows >>= λ p. done (OpensPicture parts number p next) in
    ap (λ l. read reason_of (open_picture z next parts) (bytes_at (z.place + 13) l)) (sym (ap (λ l. l ++ drop 4 bytes) same ∙ take-append-drop 4 bytes))
    ∙ (moves_row openings_of 4 (λ v. number_rules z (from_be_bytes w32 (bytes_in v))) (λ v. rest (from_be_bytes w32 (bytes_in v))) (z.place + 13) piece size (subst IsBytes (sym same) (fit_take 4 bytes fits)) holds).moves (drop 4 bytes)
    ∙ ap (λ m. read reason_of (rest (from_be_bytes w32 piece)) (bytes_at m (drop 4 bytes))) (omega (arith, size))

pub number_short : (z : Past) (next : ℕ) (parts : HeaderParts) (bytes : List ℕ) (result : Answer) → length bytes < 4 → result ≡ Err (record { place = z.place + 13; reason = reasons.Truncated }) → OpensBy z (open_picture z next parts) 13 bytes result
unfolding open_picture ◌>>=◌ word_under openings_of
number_short z next parts bytes result short is =
    fault_at z (open_picture z next parts) 13 bytes (8 * (z.place + 13)) (z.place + 13) reasons.Truncated result (short_row openings_of 4 _ _ (z.place + 13) bytes short) (omega arith) (λ e. omega (arith, short)) is

-- no rule on a number has the reason of a short field
number_reason : (z : Past) (number : ℕ) (reason : Reason) → first_broken (number_rules z number) ≡ Some reason → reason ≡ reasons.Truncated → ⊥
number_reason z number reason e t = by (z.pictures == 0 || number == (z.last + 1) % 2 ^ 32) (not (has_fields z.first && z.pictures == 0 && number % 2 == 1)) e
  where
    by : (a b : Bool) → first_broken ((a or_else reasons.PictureNumberWrong) ∷ (b or_else reasons.FieldNumberOdd) ∷ []) ≡ Some reason → ⊥
    by true true e = cc
    by true false e = cc
    by false b e = cc

pub number_broken : (z : Past) (next : ℕ) (parts : HeaderParts) (bytes piece : List ℕ) (reason : Reason) (result : Answer) → IsBytes bytes → 4 ≤ length bytes → piece ≡ take 4 bytes → first_broken (number_rules z (from_be_bytes w32 piece)) ≡ Some reason
    → result ≡ Err (record { place = z.place + 13; reason = reason }) → OpensBy z (open_picture z next parts) 13 bytes result
unfolding open_picture ◌>>=◌ word_under openings_of
number_broken z next parts bytes piece reason result fits long same broken is =
    let size : length piece ≡ 4 = omega (arith, ap (λ (l : List ℕ). length l) same, length-take 4 bytes, long) in
    fault_at z (open_picture z next parts) 13 bytes (8 * (z.place + 13)) (z.place + 13) reason result
    (ap (λ l. read reason_of (open_picture z next parts) (bytes_at (z.place + 13) l)) (sym (ap (λ l. l ++ drop 4 bytes) same ∙ take-append-drop 4 bytes))
    ∙ broken_row openings_of 4 _ _ (z.place + 13) piece (drop 4 bytes) reason size (subst IsBytes (sym same) (fit_take 4 bytes fits)) broken)
    (omega arith) (λ t. absurd (number_reason z (from_be_bytes w32 piece) reason broken t)) is

-- the parameters behind the number
module _ (z : Past) (next : ℕ) (parts : HeaderParts) (bytes piece behind : List ℕ) (fits : IsBytes bytes) (long : 4 ≤ length bytes) (same : piece ≡ take 4 bytes) (left : behind ≡ drop 4 bytes) (holds : first_broken (number_rules z (from_be_bytes w32 piece)) ≡ None) where
  number : ℕ
  number = from_be_bytes w32 piece

  abbrev finish : Params → Rows Reason Opened
  finish p = done (OpensPicture parts (from_be_bytes w32 piece) p next)

  reads_on : read reason_of (open_picture z next parts) (bytes_at (z.place + 13) bytes) ≡ read reason_of (renamed transform_reason params_rows >>= finish) (bytes_at (z.place + 17) behind)
  reads_on = behind_number z next parts bytes piece fits long same holds ∙ ap (λ l. read reason_of (renamed transform_reason params_rows >>= finish) (bytes_at (z.place + 17) l)) (sym left)

  pub params_refused : (bit : ℕ) (reason : TransformReason) (named : Reason) (result : Answer) → read params.reason_of params_rows (cursor_at behind 0) ≡ Err (record { place = bit; reason = reason }) → named ≡ transform_reason reason
      → result ≡ Err (record { place = z.place + 17 + bit / 8; reason = named }) → OpensBy z (open_picture z next parts) 13 bytes result
  params_refused bit reason named result h name is =
      fault_at z (open_picture z next parts) 13 bytes (8 * (z.place + 17) + bit) (z.place + 17 + bit / 8) (transform_reason reason) result
      (reads_on ∙ then_err reason_of (renamed transform_reason params_rows) finish (bytes_at (z.place + 17) behind) (record { place = 8 * (z.place + 17) + bit; reason = transform_reason reason })
      (group_read params_group (z.place + 17) behind ∙ ap (λ r. renamed_answer transform_reason (moved_answer (z.place + 17) r)) h))
      (omega arith) (λ e. omega (arith, params_cut behind (record { place = bit; reason = reason }) h (ap is_truncated e), ap (λ (l : List ℕ). length l) left, length-drop 4 bytes))
      (is ∙ ap (λ r. Err (record { place = z.place + 17 + bit / 8; reason = r })) name)

  pub params_stand : (p : Params) (len : ℕ) → read params.reason_of params_rows (cursor_at behind 0) ≡ Ok (p, cursor_at behind (8 * len)) → len ≤ length behind
      → (size : ℕ) × (17 + len ≡ 13 + size) × (size ≤ length bytes) × ((13 ≤ 13 + size) × (13 + size ≤ 525)) × (read reason_of (open_picture z next parts) (bytes_at (z.place + 13) bytes) ≡ Ok (OpensPicture parts (from_be_bytes w32 piece) p next, bytes_at (z.place + 13 + size) (drop size bytes)))
  params_stand p len h le =
      let opened = OpensPicture parts (from_be_bytes w32 piece) p next in (
        4 + len,
        omega arith,
        omega (arith, le, ap (λ (l : List ℕ). length l) left, length-drop 4 bytes, long),
        (omega arith, omega (arith, params_most behind p len h le)),
        reads_on
            ∙ then_ok reason_of (renamed transform_reason params_rows) finish (bytes_at (z.place + 17) behind) (bytes_at (z.place + 17 + len) (drop len behind)) p _
            (group_read params_group (z.place + 17) behind ∙ ap (λ r. renamed_answer transform_reason (moved_answer (z.place + 17) r)) h
            ∙ ap (λ n. Ok (p, record { place = n; rest = drop (8 * len) (bits_of behind) })) (omega arith)
            ∙ ap (λ l. Ok (p, record { place = 8 * (z.place + 17 + len); rest = l })) (split-bits len behind le).1)
            (read-done reason_of opened (bytes_at (z.place + 17 + len) (drop len behind)))
            ∙ ap (λ l. Ok (opened, bytes_at (z.place + 17 + len) l)) (ap (drop len) left ∙ drop-drop len 4 bytes)
            ∙ ap (λ n. Ok (opened, bytes_at n (drop (4 + len) bytes))) (omega arith),
      )

-- a refusal at a place that is told
pub at_place : (f : ℕ → ℕ) (p q : ℕ) (reason : Reason) (result : Answer) → p ≡ q → result ≡ Err (record { place = f p; reason = reason }) → result ≡ Err (record { place = f q; reason = reason })
at_place f p q reason result same is = is ∙ ap (λ n. Err (record { place = f n; reason = reason })) same

-- ---- behind a head

sum : (z : Past) (n size : ℕ) → z.place + n + size ≡ z.place + 0 + (n + size)
sum z n size = omega arith

pub behind_head : (z : Past) (info : ParseInfo) (bytes others : List ℕ) (rows : Rows Reason Opened) (result : Answer) → 13 ≤ length bytes → others ≡ drop 13 bytes → read reason_of (unit_head z) (bytes_at z.place bytes) ≡ Ok (info, bytes_at (z.place + 13) (drop 13 bytes))
    → open_payload z z.first info ≡ rows → OpensBy z rows 13 others result → OpensBy z (open_rows z) 0 bytes result
unfolding open_rows
behind_head z info bytes others rows result long same e is f = by result (subst (λ l. OpensBy z rows 13 l result) same f)
  where
    start : bytes_at (z.place + 0) bytes ≡ bytes_at z.place bytes
    start = ap (λ n. bytes_at n bytes) (omega arith)

    goes : (r : Result (Opened × Cursor) (Fault Reason)) → read reason_of rows (bytes_at (z.place + 13) (drop 13 bytes)) ≡ r → read reason_of (unit_head z >>= open_payload z z.first) (bytes_at (z.place + 0) bytes) ≡ r
    goes r h = ap (read reason_of (unit_head z >>= open_payload z z.first)) start ∙ then_ok reason_of (unit_head z) (open_payload z z.first) (bytes_at z.place bytes) (bytes_at (z.place + 13) (drop 13 bytes)) info r e (ap (λ q. read reason_of q (bytes_at (z.place + 13) (drop 13 bytes))) is ∙ h)

    by : (result : Answer) → OpensBy z rows 13 (drop 13 bytes) result → OpensBy z (unit_head z >>= open_payload z z.first) 0 bytes result
    by (Ok x) f = (
      f.0,
      13 + f.1,
      f.2,
      omega (arith, f.3),
      omega (arith, f.4, length-drop 13 bytes, long),
      (omega arith, omega (arith, f.5.1)),
      goes _ (f.6 ∙ ap (λ l. Ok (f.0, bytes_at (z.place + 13 + f.1) l)) (drop-drop f.1 13 bytes) ∙ ap (λ n. Ok (f.0, bytes_at n (drop (13 + f.1) bytes))) (sum z 13 f.1)),
    )
    by (Err refusal) f = (f.0, f.1, goes _ f.2, λ t. omega (arith, f.3 t, length-drop 13 bytes, long))

pub head_refused : (z : Past) (bytes : List ℕ) (refusal : Refusal) (result : Answer) → HeadAt (unit_head z) z.place bytes (Err refusal) → result ≡ Err refusal → OpensBy z (open_rows z) 0 bytes result
unfolding open_rows
head_refused z bytes refusal result h is =
    subst (OpensBy z (unit_head z >>= open_payload z z.first) 0 bytes) (sym is)
    (h.0, h.1, ap (λ n. read reason_of (unit_head z >>= open_payload z z.first) (bytes_at n bytes)) (omega arith) ∙ then_err reason_of (unit_head z) (open_payload z z.first) (bytes_at z.place bytes) h.0 h.2, λ t. omega (arith, h.3 t))

-- the rows of each kind
pub of_none : (z : Past) (info : ParseInfo) → z.first ≡ None → open_payload z z.first info ≡ open_first z info.next
unfolding open_payload
of_none z info e = ap (λ o. open_payload z o info) e

pub of_code : (z : Past) (first : First) (info : ParseInfo) (code : Code) → z.first ≡ Some first → info.code ≡ code → open_payload z z.first info ≡ open_payload_of z first info.next code
unfolding open_payload
of_code z first info code e is = ap (λ o. open_payload z o info) e ∙ ap (open_payload_of z first info.next) is

-- a unit whose rest isn't looked at
pub told_alone : (z : Past) (opened : Opened) (code : Opening) (bytes : List ℕ) → IsOpened z.first code 13 opened → OpensBy z (done opened) 13 bytes (Ok (code, 13))
told_alone z opened code bytes is = (opened, 0, is, refl, omega arith, (omega arith, omega arith), read-done reason_of opened (bytes_at (z.place + 13) bytes) ∙ ap (λ n. Ok (opened, bytes_at n bytes)) (omega arith))
