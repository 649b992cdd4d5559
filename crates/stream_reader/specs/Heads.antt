-- The head of a unit and the whole first unit, as the functions of the code answer them.
use Rattle.std.specs.Prelude.{◌≡◌, ◌≤◌, ◌<◌, ℕ, ◌+◌, ◌%◌, List, [], ◌∷◌, length, drop, ◌==◌, ◌||◌, ◌&&◌, not, Bool, false, Option, Some, None, is_some, Result, Ok, Err}
use Rattle.parse_info.specs.declared.TheConstants.{HEAD_SIZE}
use Rattle.field_rows.specs.Rows.{Rows, Rule, ◌or_else◌, first_broken, and_then, Fault, read}
use Rattle.parse_info.specs.declared.Code.{Code}
use Rattle.parse_info.specs.declared.InfoFault.{InfoFault}
use Rattle.parse_info.specs.declared.InfoFault.TheVariants as faults
use Rattle.parse_info.specs.declared.ParseInfo.{ParseInfo}
use Rattle.sequence_header.specs.declared.parts.HeaderParts.{HeaderParts}
use Rattle.run_theory.specs.Grammar.{bytes_at, unit_at}
use Rattle.stream_rows.specs.declared.reason.Reason.{Reason}
use Rattle.stream_rows.specs.declared.reason.Reason.TheVariants as reasons
use Rattle.stream_rows.specs.Refusals.{Refusal}
use Rattle.stream_reader.specs.declared.heads.Before.{Before}
use Rattle.stream_rows.specs.Units.{First, Past, nothing_yet, Sequence, reason_of, is_header, is_end_code, next_rules, units}
use Rattle.stream_rows.specs.Streams.{refusal_of}
use Rattle.stream_reader.specs.HeadUnits.{leads_on}

-- the picture coding mode of the sequence's first header
abbrev pub coding_of : Option First → Option ℕ
coding_of None = None
coding_of (Some first) = Some first.parts.coding

-- what a head looks back at
abbrev pub looking_back : Past → Before
looking_back z =
    record { place = z.place; previous = z.previous; later = z.later; coding = coding_of z.first; pictures = z.pictures }

-- The head of the unit at a place, in front of bytes, by its rows: it was read whole, or has its first fault, which is a
-- short field only where the bytes end inside the head.
abbrev pub HeadAt : Rows Reason ParseInfo → ℕ → List ℕ → Result ParseInfo Refusal → Type 0
HeadAt rows place bytes (Ok info) =
    (HEAD_SIZE ≤ length bytes) × (read reason_of rows (bytes_at place bytes) ≡ Ok (info, bytes_at (place + HEAD_SIZE) (drop HEAD_SIZE bytes)))
HeadAt rows place bytes (Err refusal) = (fault : Fault Reason) × (refusal ≡ refusal_of fault)
    × (read reason_of rows (bytes_at place bytes) ≡ Err fault) × (fault.reason ≡ reasons.Truncated → length bytes < HEAD_SIZE)

-- The first unit in front of bytes: its sequence header and its length, or its first fault.
abbrev pub IsFirstUnit : List ℕ → Result (HeaderParts × ℕ) Refusal → Type 0
IsFirstUnit bytes (Ok x) =
    (x.1 ≤ length bytes) × (unit_at units nothing_yet bytes ≡ Ok (Sequence x.0, bytes_at x.1 (drop x.1 bytes)))
IsFirstUnit bytes (Err refusal) =
    (fault : Fault Reason) × (refusal ≡ refusal_of fault) × (unit_at units nothing_yet bytes ≡ Err fault)

-- ---- for the code

-- the pictures are fields
abbrev pub are_fields : Option ℕ → Bool
are_fields None = false
are_fields (Some coding) = coding == 1

-- the rules on a code and on a previous offset, by what the head looks back at
abbrev pub code_rules_behind : Before → Code → List (Rule Reason)
code_rules_behind before code =
    ((is_some before.coding || is_header code) or_else reasons.NoSequenceHeader)
    ∷ (not (is_end_code code && are_fields before.coding && before.pictures % 2 == 1) or_else reasons.HalfFrame) ∷ []

-- the rules of the previous offset, behind what was told before
abbrev pub previous_rules_behind : Before → ℕ → List (Rule Reason)
previous_rules_behind before previous =
    ((previous == before.previous || ((before.later && not (is_some before.coding)) && previous == 0)) or_else reasons.PreviousWrong)
    ∷ []

-- a field at a place, after the rules on it
abbrev pub passes : ℕ → Option Reason → Result Unit Refusal
passes place None = Ok tt
passes place (Some reason) = Err (record { place = place; reason = reason })

-- what was read of a head, after the rules on its fields
abbrev pub judged_head : Before → Result ParseInfo InfoFault → Result ParseInfo Refusal
judged_head before (Ok info) =
    and_then (passes (before.place + 4) (first_broken (code_rules_behind before info.code))) (λ code.
    and_then (passes (before.place + 5) (first_broken (next_rules info.code info.next))) (λ next.
    and_then (passes (before.place + 9) (first_broken (previous_rules_behind before info.previous))) (λ previous. Ok info)))
judged_head before (Err faults.PrefixShort) = Err (record { place = before.place; reason = reasons.Truncated })
judged_head before (Err faults.BadPrefix) = Err (record { place = before.place; reason = reasons.BadPrefix })
judged_head before (Err faults.CodeShort) = Err (record { place = before.place + 4; reason = reasons.Truncated })
judged_head before (Err (faults.UnsupportedCode code)) =
    Err (record { place = before.place + 4; reason = reasons.UnsupportedCode code })
judged_head before (Err (faults.NextShort code)) =
    and_then (passes (before.place + 4) (first_broken (code_rules_behind before code)))
    (λ code. Err (record { place = before.place + 5; reason = reasons.Truncated }))
judged_head before (Err (faults.PreviousShort code next)) =
    and_then (passes (before.place + 4) (first_broken (code_rules_behind before code))) (λ checked.
    and_then (passes (before.place + 5) (first_broken (next_rules code next)))
    (λ checked. Err (record { place = before.place + 9; reason = reasons.Truncated })))

-- the rule on the next offset of a head alone
abbrev pub head_only_rules : Code → ℕ → List (Rule Reason)
head_only_rules code next = (leads_on code next or_else reasons.OffsetShort) ∷ []

-- what was read of a head alone
abbrev pub head_only_judged : ℕ → Result ParseInfo InfoFault → Result ParseInfo Refusal
head_only_judged place (Ok info) = and_then (passes (place + 5) (first_broken (head_only_rules info.code info.next))) (λ checked. Ok info)
head_only_judged place (Err faults.PrefixShort) = Err (record { place = place; reason = reasons.Truncated })
head_only_judged place (Err faults.BadPrefix) = Err (record { place = place; reason = reasons.BadPrefix })
head_only_judged place (Err faults.CodeShort) = Err (record { place = place + 4; reason = reasons.Truncated })
head_only_judged place (Err (faults.UnsupportedCode code)) = Err (record { place = place + 4; reason = reasons.UnsupportedCode code })
head_only_judged place (Err (faults.NextShort code)) = Err (record { place = place + 5; reason = reasons.Truncated })
head_only_judged place (Err (faults.PreviousShort code next)) = and_then
    (passes (place + 5) (first_broken (head_only_rules code next)))
    (λ checked. Err (record { place = place + 9; reason = reasons.Truncated }))
