-- What the rows of a head alone read, and the laws of the table of such units.
use Rattle.std.proofs.Common.{◌≡◌, ℕ, ◌+◌, ◌*◌, ◌<◌, ◌≤◌, List, [], ◌∷◌, length, drop, Some, Result, Ok, Err, Bool, true, false, IsTrue, arith, ap, ◌∙◌, refl}
use Rattle.std.specs.Prelude.{OnOk, IfErr}
use Rattle.bit_codes.specs.Bits.{Cursor, bits_of}
use Rattle.field_rows.specs.Rows.{◌or_else◌, Fault, read, reading_unless, and_then, first_broken}
use Rattle.field_rows.proofs.Words.{IsBytes}
use Rattle.parse_info.specs.declared.Code.{Code}
use Rattle.parse_info.specs.declared.ParseInfo.{ParseInfo}
use Rattle.parse_info.specs.declared.InfoFault.{InfoFault}
use Rattle.parse_info.specs.declared.InfoFault.TheVariants as faults
use Rattle.parse_info.specs.Head.{info_at, is_short, head_rows}
use Rattle.parse_info.proofs.Told.{Reader, told, read-told}
use Rattle.run_theory.specs.Grammar.{bytes_at}
use Rattle.stream_rows.specs.declared.reason.Reason.{Reason}
use Rattle.stream_rows.specs.declared.reason.Reason.TheVariants as reasons
use Rattle.stream_rows.specs.Refusals.{Refusal}
use Rattle.stream_rows.specs.Units.{reason_of}
use Rattle.stream_reader.specs.HeadUnits.{leads_on, head_only_head, heads}
pub use Rattle.stream_reader.specs.HeadLaws.{heads_laws}
use Rattle.stream_reader.specs.Heads.{passes, head_only_rules, head_only_judged, HeadAt}
use Rattle.stream_reader.proofs.HeadRows.{thirteen, Tells, tells_judged, tells_fault, tells_head}
use Rattle.stream_reader.proofs.Reasons.{IsTable}

-- ---- the laws of the table

pub heads_table : IsTable heads
heads_table = record { laws = heads_laws; names = refl; told = λ reason. refl }

-- ---- the head

abbrev head_only_reader : Reader Reason
head_only_reader = record { reason_of = reason_of; bad_prefix = reasons.BadPrefix; unsupported = reasons.UnsupportedCode; code_rules = λ code. []; next_rules = λ code next. (leads_on code next or_else reasons.OffsetShort) ∷ []; previous_rules = λ code next previous. [] }

head_only_told : (place : ℕ) (bytes : List ℕ) → IsBytes bytes → read reason_of head_only_head (bytes_at place bytes) ≡ told head_only_reader (8 * place) (bytes_at (place + 13) (drop 13 bytes)) (info_at bytes)
unfolding head_only_head
head_only_told place bytes fits =
    read-told head_only_reader (8 * place) bytes fits
    ∙ ap (λ n. told head_only_reader (8 * place) (record { place = n; rest = bits_of (drop 4 (drop 4 (drop 1 (drop 4 bytes)))) }) (info_at bytes)) (omega arith)
    ∙ ap (λ l. told head_only_reader (8 * place) (bytes_at (place + 13) l) (info_at bytes)) (thirteen bytes)

-- no rule's reason is that of a short field
not_short : (long : Bool) → first_broken ((long or_else reasons.OffsetShort) ∷ []) ≡ Some reasons.Truncated → ⊥
not_short true e = cc
not_short false e = cc

tells_offset : (place : ℕ) (bytes : List ℕ) (behind : Cursor) (code : Code) (next : ℕ) (r : Result (ParseInfo × Cursor) (Fault Reason)) (s : Result ParseInfo Refusal) → Tells bytes behind r s
    → Tells bytes behind (reading_unless (8 * place + 32 + 8) (first_broken (head_only_rules code next)) r) (and_then (passes (place + 5) (first_broken (head_only_rules code next))) (λ checked. s))
tells_offset place bytes behind code next r s h = tells_judged bytes behind (8 * place + 32 + 8) (place + 5) (first_broken (head_only_rules code next)) r s (omega arith) (not_short (leads_on code next)) h

tells_head_only : (place : ℕ) (bytes : List ℕ) (behind : Cursor) (fault : InfoFault) → (IsTrue (is_short fault) → length bytes < 13) → Tells bytes behind (told head_only_reader (8 * place) behind (Err fault)) (head_only_judged place (Err fault))
tells_head_only place bytes behind faults.PrefixShort short = tells_fault bytes behind (8 * place) place reasons.Truncated (omega arith) (λ e. short refl)
tells_head_only place bytes behind faults.BadPrefix short = tells_fault bytes behind (8 * place) place reasons.BadPrefix (omega arith) (λ e. cc)
tells_head_only place bytes behind faults.CodeShort short = tells_fault bytes behind (8 * place + 32) (place + 4) reasons.Truncated (omega arith) (λ e. short refl)
tells_head_only place bytes behind (faults.UnsupportedCode code) short = tells_fault bytes behind (8 * place + 32) (place + 4) (reasons.UnsupportedCode code) (omega arith) (λ e. cc)
tells_head_only place bytes behind (faults.NextShort code) short = tells_fault bytes behind (8 * place + 32 + 8) (place + 5) reasons.Truncated (omega arith) (λ e. short refl)
tells_head_only place bytes behind (faults.PreviousShort code next) short =
    tells_offset place bytes behind code next _ _ (tells_fault bytes behind (8 * place + 32 + 8 + 32) (place + 9) reasons.Truncated (omega arith) (λ e. short refl))

pub head_only_is : (place : ℕ) (bytes : List ℕ) (found : Result ParseInfo InfoFault) → IsBytes bytes → info_at bytes ≡ found → OnOk found (13 ≤ length bytes) → IfErr found (λ fault. IsTrue (is_short fault) → length bytes < 13)
    → HeadAt head_only_head place bytes (head_only_judged place found)
head_only_is place bytes (Ok info) fits e long short =
    let behind = bytes_at (place + 13) (drop 13 bytes) in
    tells_head head_only_head place bytes _ _ (head_only_told place bytes fits ∙ ap (told head_only_reader (8 * place) behind) e) (tells_offset place bytes behind info.code info.next _ _ (long, refl))
head_only_is place bytes (Err fault) fits e long short =
    let behind = bytes_at (place + 13) (drop 13 bytes) in
    tells_head head_only_head place bytes _ _ (head_only_told place bytes fits ∙ ap (told head_only_reader (8 * place) behind) e) (tells_head_only place bytes behind fault short)
