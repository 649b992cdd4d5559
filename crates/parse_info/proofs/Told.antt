-- What every reader's rows of a head read, from what `ParseInfo::read` answers on the same bytes.
use Rattle.std.proofs.Common.{◌≡◌, ℕ, ◌+◌, List, [], ◌∷◌, length, take, drop, Bool, true, false, cond, ltb, Option, Some, None, Result, Ok, Err, refl, sym, ap, ◌∙◌}
use Rattle.std.specs.Prelude.{slice_index, unwrap_or, is_some, ◌==◌}
use Rattle.std.specs.Int.{from_be_bytes, w32}
use Rattle.bit_codes.specs.declared.CodeFault.{CodeFault}
use Rattle.bit_codes.specs.Bits.{Cursor}
use Rattle.field_rows.specs.Rows.{Rule, ◌or_else◌, Fault, read, reading_unless, first_broken}
use Rattle.field_rows.proofs.Words.{IsBytes}
use Rattle.parse_info.specs.declared.Code.{Code}
use Rattle.parse_info.specs.declared.Code.TheVariants.{Padding}
use Rattle.parse_info.specs.declared.ParseInfo.{ParseInfo}
use Rattle.parse_info.specs.declared.InfoFault.{InfoFault}
use Rattle.parse_info.specs.declared.InfoFault.TheVariants.{PrefixShort, BadPrefix, CodeShort, UnsupportedCode, NextShort, PreviousShort}
use Rattle.parse_info.specs.Code.{code_of}
use Rattle.parse_info.specs.Head.{head_rows, info_at, head_answer, FieldShort, WrongPrefix, OtherCode}
use Rattle.parse_info.proofs.HeadSteps.{bytes_at, short_at, read-head, info_at-steps}

-- A reader's names for a bad prefix and for a code outside the profile, and its further rules.
pub record Reader (R : Type 0) : Type 0 where
  pub reason_of : CodeFault → R
  pub bad_prefix : R
  pub unsupported : ℕ → R
  pub code_rules : Code → List (Rule R)
  pub next_rules : Code → ℕ → List (Rule R)
  pub previous_rules : Code → ℕ → ℕ → List (Rule R)

-- What the rows read behind a head, or its first fault: the rules on a field come before the later field's shortness.
abbrev pub told : {R : Type 0} → Reader R → ℕ → Cursor → Result ParseInfo InfoFault → Result (ParseInfo × Cursor) (Fault R)
told r place behind (Ok info) =
    reading_unless (place + 32) (first_broken (r.code_rules info.code))
    (reading_unless (place + 32 + 8) (first_broken (r.next_rules info.code info.next))
    (reading_unless (place + 32 + 8 + 32) (first_broken (r.previous_rules info.code info.next info.previous)) (Ok (info, behind))))
told r place behind (Err PrefixShort) = short_at r.reason_of place
told r place behind (Err BadPrefix) = Err (record { place = place; reason = r.bad_prefix })
told r place behind (Err CodeShort) = short_at r.reason_of (place + 32)
told r place behind (Err (UnsupportedCode code)) = Err (record { place = place + 32; reason = r.unsupported code })
told r place behind (Err (NextShort code)) = reading_unless (place + 32) (first_broken (r.code_rules code)) (short_at r.reason_of (place + 32 + 8))
told r place behind (Err (PreviousShort code next)) =
    reading_unless (place + 32) (first_broken (r.code_rules code)) (reading_unless (place + 32 + 8) (first_broken (r.next_rules code next)) (short_at r.reason_of (place + 32 + 8 + 32)))

-- the head by the tests of its fields, in the place of what they are of
abbrev by_tests : {R : Type 0} → Reader R → ℕ → Cursor → Bool → Bool → Bool → ℕ → Option Code → Bool → ℕ → Bool → ℕ → Result (ParseInfo × Cursor) (Fault R)
by_tests r place behind no_prefix is_prefix no_code byte found no_next next no_previous previous =
    let code = unwrap_or found Padding in
    cond no_prefix (short_at r.reason_of place) (reading_unless place (first_broken ((is_prefix or_else r.bad_prefix) ∷ []))
    (cond no_code (short_at r.reason_of (place + 32)) (reading_unless (place + 32) (first_broken ((is_some found or_else r.unsupported byte) ∷ r.code_rules code))
    (cond no_next (short_at r.reason_of (place + 32 + 8)) (reading_unless (place + 32 + 8) (first_broken (r.next_rules code next))
    (cond no_previous (short_at r.reason_of (place + 32 + 8 + 32)) (reading_unless (place + 32 + 8 + 32) (first_broken (r.previous_rules code next previous)) (Ok (record { code = code; next = next; previous = previous }, behind)))))))))

abbrev plain_by_tests : Bool → Bool → Bool → ℕ → Option Code → Bool → ℕ → Bool → ℕ → Result ParseInfo InfoFault
plain_by_tests no_prefix is_prefix no_code byte found no_next next no_previous previous =
    let code = unwrap_or found Padding in
    cond no_prefix (Err PrefixShort) (cond is_prefix
    (cond no_code (Err CodeShort) (cond (is_some found)
    (cond no_next (Err (NextShort code))
    (cond no_previous (Err (PreviousShort code next)) (Ok (record { code = code; next = next; previous = previous }))))
    (Err (UnsupportedCode byte))))
    (Err BadPrefix))

same : {R : Type 0} (r : Reader R) (place : ℕ) (behind : Cursor) (no_prefix is_prefix no_code : Bool) (byte : ℕ) (found : Option Code) (no_next : Bool) (next : ℕ) (no_previous : Bool) (previous : ℕ)
    → by_tests r place behind no_prefix is_prefix no_code byte found no_next next no_previous previous ≡ told r place behind (plain_by_tests no_prefix is_prefix no_code byte found no_next next no_previous previous)
same r place behind true is_prefix no_code byte found no_next next no_previous previous = refl
same r place behind false false no_code byte found no_next next no_previous previous = refl
same r place behind false true true byte found no_next next no_previous previous = refl
same r place behind false true false byte None no_next next no_previous previous = refl
same r place behind false true false byte (Some code) true next no_previous previous = refl
same r place behind false true false byte (Some code) false next true previous = refl
same r place behind false true false byte (Some code) false next false previous = refl

-- what `ParseInfo::read` answers, by the same tests
alone : (bytes : List ℕ) (no_prefix is_prefix no_code : Bool) (found : Option Code) (no_next no_previous : Bool) → code_of (slice_index (drop 4 bytes) 0) ≡ found
    → (let next = from_be_bytes w32 (take 4 (drop 1 (drop 4 bytes))) in
    let previous = from_be_bytes w32 (take 4 (drop 4 (drop 1 (drop 4 bytes)))) in
    head_answer bytes (by_tests (record { reason_of = λ fault. FieldShort; bad_prefix = WrongPrefix; unsupported = OtherCode; code_rules = λ code. []; next_rules = λ code next. []; previous_rules = λ code next previous. [] })
    0 (bytes_at (0 + 32 + 8 + 32 + 32) (drop 4 (drop 4 (drop 1 (drop 4 bytes))))) no_prefix is_prefix no_code (slice_index (drop 4 bytes) 0) found no_next next no_previous previous)
    ≡ plain_by_tests no_prefix is_prefix no_code (slice_index (drop 4 bytes) 0) found no_next next no_previous previous)
alone bytes true is_prefix no_code found no_next no_previous e = refl
alone bytes false false no_code found no_next no_previous e = refl
alone bytes false true true found no_next no_previous e = refl
alone bytes false true false None no_next no_previous e = refl
alone bytes false true false (Some code) true no_previous e = rw e refl
alone bytes false true false (Some code) false true e = rw e refl
alone bytes false true false (Some code) false false e = refl

-- The rows of a head read what `ParseInfo::read` answers, under the reader's rules.
pub read-told : {R : Type 0} (r : Reader R) (place : ℕ) (bytes : List ℕ) → IsBytes bytes
    → read r.reason_of (head_rows r.bad_prefix r.unsupported r.code_rules r.next_rules r.previous_rules) (bytes_at place bytes)
    ≡ told r place (bytes_at (place + 32 + 8 + 32 + 32) (drop 4 (drop 4 (drop 1 (drop 4 bytes))))) (info_at bytes)
read-told r place bytes fits =
    let behind = bytes_at (place + 32 + 8 + 32 + 32) (drop 4 (drop 4 (drop 1 (drop 4 bytes)))) in
    let no_prefix = ltb (length bytes) 4 in
    let is_prefix = from_be_bytes w32 (take 4 bytes) == 0x42424344 in
    let no_code = ltb (length (drop 4 bytes)) 1 in
    let byte = slice_index (drop 4 bytes) 0 in
    let no_next = ltb (length (drop 1 (drop 4 bytes))) 4 in
    let next = from_be_bytes w32 (take 4 (drop 1 (drop 4 bytes))) in
    let no_previous = ltb (length (drop 4 (drop 1 (drop 4 bytes)))) 4 in
    let previous = from_be_bytes w32 (take 4 (drop 4 (drop 1 (drop 4 bytes)))) in
    read-head r.reason_of r.bad_prefix r.unsupported r.code_rules r.next_rules r.previous_rules place bytes fits
    ∙ same r place behind no_prefix is_prefix no_code byte (code_of byte) no_next next no_previous previous
    ∙ ap (told r place behind) (sym (info_at-steps bytes fits ∙ alone bytes no_prefix is_prefix no_code (code_of byte) no_next no_previous refl))
