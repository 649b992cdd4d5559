-- The rows of a head over bytes, field by field.
use Rattle.std.proofs.Common.{◌≡◌, ℕ, suc, ◌+◌, List, [], ◌∷◌, length, take, drop, Bool, true, false, cond, ltb, Option, Some, None, Result, Ok, Err, refl, ap, ◌∙◌, arith}
use Rattle.std.specs.Prelude.{slice_index, ◌==◌}
use Rattle.std.specs.Int.{from_be_bytes, w32}
use Rattle.std.proofs.lemmas.Bool.{ltb-false, ltb-true, cond_above}
use Rattle.std.proofs.lemmas.List.{get_or-drop}
use Rattle.bit_codes.specs.declared.CodeFault.{CodeFault}
use Rattle.bit_codes.specs.declared.CodeFault.TheVariants as codes
use Rattle.bit_codes.specs.Bits.{Cursor, bits_of}
use Rattle.field_rows.specs.Rows.{Rule, ◌or_else◌, Rows, done, ◌>>=◌, word_under, byte_under, Fault, read, and_then, reading_unless, first_broken}
use Rattle.field_rows.proofs.Reading.{read-bind, read-done}
use Rattle.field_rows.proofs.Words.{IsBytes, read-word, read-word_short, read-byte, read-byte_short, read-word_under, read-byte_under}
use Rattle.parse_info.specs.declared.Code.{Code}
use Rattle.parse_info.specs.declared.ParseInfo.{ParseInfo}
use Rattle.parse_info.specs.declared.InfoFault.{InfoFault}
use Rattle.parse_info.specs.Code.{is_supported, code_in}
use Rattle.parse_info.specs.Head.{head_rows, plain_rows, info_at, head_answer, FieldShort, WrongPrefix, OtherCode}

-- a reader at the first of these bytes
abbrev pub bytes_at : ℕ → List ℕ → Cursor
bytes_at place bytes = record { place = place; rest = bits_of bytes }

abbrev pub short_at : {R A : Type 0} → (CodeFault → R) → ℕ → Result A (Fault R)
short_at reason_of place = Err (record { place = place; reason = reason_of codes.Short })

dropped : (n : ℕ) (bytes : List ℕ) → IsBytes bytes → IsBytes (drop n bytes)
dropped n bytes fits i = rw (get_or-drop n bytes i 0) (fits (n + i))

judged_then : {R A B : Type 0} (place : ℕ) (broken : Option R) (a : A) (f : A → Result B (Fault R)) → and_then (reading_unless place broken (Ok a)) f ≡ reading_unless place broken (f a)
judged_then place None a f = refl
judged_then place (Some reason) a f = refl

-- a number of four bytes and what follows it
pub read-word_then : {R A : Type 0} (reason_of : CodeFault → R) (rules : ℕ → List (Rule R)) (next : ℕ → Rows R A) (place : ℕ) (bytes : List ℕ) → IsBytes bytes
    → read reason_of (word_under rules >>= next) (bytes_at place bytes)
    ≡ cond (ltb (length bytes) 4) (short_at reason_of place) (reading_unless place (first_broken (rules (from_be_bytes w32 (take 4 bytes)))) (read reason_of (next (from_be_bytes w32 (take 4 bytes))) (bytes_at (place + 32) (drop 4 bytes))))
read-word_then {R} {A} reason_of rules next place bytes fits = by_length (ltb (length bytes) 4) refl
  where
    by_length : (short : Bool) → ltb (length bytes) 4 ≡ short
        → read reason_of (word_under rules >>= next) (bytes_at place bytes) ≡ cond short (short_at reason_of place) (reading_unless place (first_broken (rules (from_be_bytes w32 (take 4 bytes)))) (read reason_of (next (from_be_bytes w32 (take 4 bytes))) (bytes_at (place + 32) (drop 4 bytes))))
    by_length true e =
        read-bind reason_of (word_under rules) next (bytes_at place bytes)
        ∙ ap (λ r. and_then r (λ x. read reason_of (next x.0) x.1))
        (read-word_under reason_of rules (bytes_at place bytes) ∙ ap (λ r. and_then r (λ x. reading_unless place (first_broken (rules x.0)) (Ok x))) (read-word_short reason_of place bytes (ltb-true (length bytes) 4 e)))
    by_length false e =
        read-bind reason_of (word_under rules) next (bytes_at place bytes)
        ∙ ap (λ r. and_then r (λ x. read reason_of (next x.0) x.1))
        (read-word_under reason_of rules (bytes_at place bytes) ∙ ap (λ r. and_then r (λ x. reading_unless place (first_broken (rules x.0)) (Ok x))) (read-word reason_of place bytes fits (ltb-false (length bytes) 4 e)))
        ∙ judged_then place (first_broken (rules (from_be_bytes w32 (take 4 bytes)))) (from_be_bytes w32 (take 4 bytes), bytes_at (place + 32) (drop 4 bytes)) (λ x. read reason_of (next x.0) x.1)

-- a number of one byte and what follows it
pub read-byte_then : {R A : Type 0} (reason_of : CodeFault → R) (rules : ℕ → List (Rule R)) (next : ℕ → Rows R A) (place : ℕ) (bytes : List ℕ) → IsBytes bytes
    → read reason_of (byte_under rules >>= next) (bytes_at place bytes)
    ≡ cond (ltb (length bytes) 1) (short_at reason_of place) (reading_unless place (first_broken (rules (slice_index bytes 0))) (read reason_of (next (slice_index bytes 0)) (bytes_at (place + 8) (drop 1 bytes))))
read-byte_then reason_of rules next place [] fits =
    read-bind reason_of (byte_under rules) next (bytes_at place [])
    ∙ ap (λ r. and_then r (λ x. read reason_of (next x.0) x.1))
    (read-byte_under reason_of rules (bytes_at place []) ∙ ap (λ r. and_then r (λ x. reading_unless place (first_broken (rules x.0)) (Ok x))) (read-byte_short reason_of place [] (omega arith)))
read-byte_then reason_of rules next place (b ∷ bytes) fits =
    read-bind reason_of (byte_under rules) next (bytes_at place (b ∷ bytes))
    ∙ ap (λ r. and_then r (λ x. read reason_of (next x.0) x.1))
    (read-byte_under reason_of rules (bytes_at place (b ∷ bytes)) ∙ ap (λ r. and_then r (λ x. reading_unless place (first_broken (rules x.0)) (Ok x))) (read-byte reason_of place (b ∷ bytes) fits (omega arith)))
    ∙ judged_then place (first_broken (rules b)) (b, bytes_at (place + 8) bytes) (λ x. read reason_of (next x.0) x.1)
    ∙ some_length (length bytes) _ _
  where
    some_length : {X : Type 0} (n : ℕ) (x y : X) → y ≡ cond (ltb (suc n) 1) x y
    some_length n x y = cond_above (suc n) 1 x y y (omega arith) refl

-- ---- the head by its bytes: each field is short, or its rules are asked and the field behind it is read

abbrev pub previous_steps : {R : Type 0} → (CodeFault → R) → (Code → ℕ → ℕ → List (Rule R)) → ℕ → List ℕ → Code → ℕ → Result (ParseInfo × Cursor) (Fault R)
previous_steps reason_of previous_rules place bytes code next =
    let previous = from_be_bytes w32 (take 4 bytes) in
    cond (ltb (length bytes) 4) (short_at reason_of place)
    (reading_unless place (first_broken (previous_rules code next previous)) (Ok (record { code = code; next = next; previous = previous }, bytes_at (place + 32) (drop 4 bytes))))

abbrev pub next_steps : {R : Type 0} → (CodeFault → R) → (Code → ℕ → List (Rule R)) → (Code → ℕ → ℕ → List (Rule R)) → ℕ → List ℕ → Code → Result (ParseInfo × Cursor) (Fault R)
next_steps reason_of next_rules previous_rules place bytes code =
    let next = from_be_bytes w32 (take 4 bytes) in
    cond (ltb (length bytes) 4) (short_at reason_of place)
    (reading_unless place (first_broken (next_rules code next)) (previous_steps reason_of previous_rules (place + 32) (drop 4 bytes) code next))

abbrev pub code_steps : {R : Type 0} → (CodeFault → R) → (ℕ → R) → (Code → List (Rule R)) → (Code → ℕ → List (Rule R)) → (Code → ℕ → ℕ → List (Rule R)) → ℕ → List ℕ → Result (ParseInfo × Cursor) (Fault R)
code_steps reason_of unsupported code_rules next_rules previous_rules place bytes =
    let byte = slice_index bytes 0 in
    cond (ltb (length bytes) 1) (short_at reason_of place)
    (reading_unless place (first_broken ((is_supported byte or_else unsupported byte) ∷ code_rules (code_in byte))) (next_steps reason_of next_rules previous_rules (place + 8) (drop 1 bytes) (code_in byte)))

abbrev pub head_steps : {R : Type 0} → (CodeFault → R) → R → (ℕ → R) → (Code → List (Rule R)) → (Code → ℕ → List (Rule R)) → (Code → ℕ → ℕ → List (Rule R)) → ℕ → List ℕ → Result (ParseInfo × Cursor) (Fault R)
head_steps reason_of bad_prefix unsupported code_rules next_rules previous_rules place bytes =
    cond (ltb (length bytes) 4) (short_at reason_of place)
    (reading_unless place (first_broken (((from_be_bytes w32 (take 4 bytes) == 0x42424344) or_else bad_prefix) ∷ [])) (code_steps reason_of unsupported code_rules next_rules previous_rules (place + 32) (drop 4 bytes)))

-- what lies behind a field
under : {R A : Type 0} (short : Bool) (place : ℕ) (broken : Option R) (r s t : Result A (Fault R)) → s ≡ t → cond short r (reading_unless place broken s) ≡ cond short r (reading_unless place broken t)
under short place broken r s t e = ap (λ x. cond short r (reading_unless place broken x)) e

-- the rows from the previous offset, from the next offset and from the code on
abbrev previous_part : {R : Type 0} → (Code → ℕ → ℕ → List (Rule R)) → Code → ℕ → Rows R ParseInfo
previous_part previous_rules code next = word_under (previous_rules code next) >>= λ previous. done (record { code = code; next = next; previous = previous })

abbrev next_part : {R : Type 0} → (Code → ℕ → List (Rule R)) → (Code → ℕ → ℕ → List (Rule R)) → Code → Rows R ParseInfo
next_part next_rules previous_rules code = word_under (next_rules code) >>= λ next. previous_part previous_rules code next

abbrev code_part : {R : Type 0} → (ℕ → R) → (Code → List (Rule R)) → (Code → ℕ → List (Rule R)) → (Code → ℕ → ℕ → List (Rule R)) → Rows R ParseInfo
code_part unsupported code_rules next_rules previous_rules = byte_under (λ v. (is_supported v or_else unsupported v) ∷ code_rules (code_in v)) >>= λ byte. next_part next_rules previous_rules (code_in byte)

abbrev word_of : List ℕ → ℕ
word_of bytes = from_be_bytes w32 (take 4 bytes)

read-previous : {R : Type 0} (reason_of : CodeFault → R) (previous_rules : Code → ℕ → ℕ → List (Rule R)) (place : ℕ) (bytes : List ℕ) (code : Code) (next : ℕ) → IsBytes bytes
    → read reason_of (previous_part previous_rules code next) (bytes_at place bytes) ≡ previous_steps reason_of previous_rules place bytes code next
read-previous reason_of previous_rules place bytes code next fits =
    read-word_then reason_of (previous_rules code next) (λ previous. done (record { code = code; next = next; previous = previous })) place bytes fits
    ∙ under (ltb (length bytes) 4) place (first_broken (previous_rules code next (word_of bytes))) (short_at reason_of place) _ _
    (read-done reason_of (record { code = code; next = next; previous = word_of bytes }) (bytes_at (place + 32) (drop 4 bytes)))

read-next : {R : Type 0} (reason_of : CodeFault → R) (next_rules : Code → ℕ → List (Rule R)) (previous_rules : Code → ℕ → ℕ → List (Rule R)) (place : ℕ) (bytes : List ℕ) (code : Code) → IsBytes bytes
    → read reason_of (next_part next_rules previous_rules code) (bytes_at place bytes) ≡ next_steps reason_of next_rules previous_rules place bytes code
read-next reason_of next_rules previous_rules place bytes code fits =
    read-word_then reason_of (next_rules code) (λ next. previous_part previous_rules code next) place bytes fits
    ∙ under (ltb (length bytes) 4) place (first_broken (next_rules code (word_of bytes))) (short_at reason_of place) _ _
    (read-previous reason_of previous_rules (place + 32) (drop 4 bytes) code (word_of bytes) (dropped 4 bytes fits))

read-code : {R : Type 0} (reason_of : CodeFault → R) (unsupported : ℕ → R) (code_rules : Code → List (Rule R)) (next_rules : Code → ℕ → List (Rule R)) (previous_rules : Code → ℕ → ℕ → List (Rule R)) (place : ℕ) (bytes : List ℕ) → IsBytes bytes
    → read reason_of (code_part unsupported code_rules next_rules previous_rules) (bytes_at place bytes) ≡ code_steps reason_of unsupported code_rules next_rules previous_rules place bytes
read-code reason_of unsupported code_rules next_rules previous_rules place bytes fits =
    read-byte_then reason_of (λ v. (is_supported v or_else unsupported v) ∷ code_rules (code_in v)) (λ byte. next_part next_rules previous_rules (code_in byte)) place bytes fits
    ∙ under (ltb (length bytes) 1) place (first_broken ((is_supported (slice_index bytes 0) or_else unsupported (slice_index bytes 0)) ∷ code_rules (code_in (slice_index bytes 0)))) (short_at reason_of place) _ _
    (read-next reason_of next_rules previous_rules (place + 8) (drop 1 bytes) (code_in (slice_index bytes 0)) (dropped 1 bytes fits))

-- For every reader of units: its rows of a head, over bytes.
pub read-head : {R : Type 0} (reason_of : CodeFault → R) (bad_prefix : R) (unsupported : ℕ → R) (code_rules : Code → List (Rule R)) (next_rules : Code → ℕ → List (Rule R)) (previous_rules : Code → ℕ → ℕ → List (Rule R)) (place : ℕ) (bytes : List ℕ) → IsBytes bytes
    → read reason_of (head_rows bad_prefix unsupported code_rules next_rules previous_rules) (bytes_at place bytes) ≡ head_steps reason_of bad_prefix unsupported code_rules next_rules previous_rules place bytes
unfolding head_rows
read-head reason_of bad_prefix unsupported code_rules next_rules previous_rules place bytes fits =
    read-word_then reason_of (λ v. ((v == 0x42424344) or_else bad_prefix) ∷ []) (λ prefix. code_part unsupported code_rules next_rules previous_rules) place bytes fits
    ∙ under (ltb (length bytes) 4) place (first_broken (((word_of bytes == 0x42424344) or_else bad_prefix) ∷ [])) (short_at reason_of place) _ _
    (read-code reason_of unsupported code_rules next_rules previous_rules (place + 32) (drop 4 bytes) (dropped 4 bytes fits))

-- a head alone
abbrev pub plain_steps : List ℕ → Result ParseInfo InfoFault
plain_steps bytes = head_answer bytes (head_steps (λ fault. FieldShort) WrongPrefix OtherCode (λ code. []) (λ code next. []) (λ code next previous. []) 0 bytes)

pub info_at-steps : (bytes : List ℕ) → IsBytes bytes → info_at bytes ≡ plain_steps bytes
unfolding info_at plain_rows
info_at-steps bytes fits = ap (head_answer bytes) (read-head (λ fault. FieldShort) WrongPrefix OtherCode (λ code. []) (λ code next. []) (λ code next previous. []) 0 bytes fits)
