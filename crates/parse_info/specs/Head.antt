-- The head of a unit: the standard's parse info header (SMPTE ST 2042-1:2017, 10.5.1).
use Rattle.std.specs.Prelude.{ℕ, List, [], ◌∷◌, ◌++◌, take, drop, slice_index, ◌==◌, if◌then◌else◌, Result, Ok, Err, Bool, true, false}
use Rattle.std.specs.Int.{w32, from_be_bytes, to_be_bytes}
use Rattle.bit_codes.specs.Bits.{Cursor, cursor_at}
use Rattle.field_rows.specs.Rows.{Rule, ◌or_else◌, Rows, done, ◌>>=◌, word_under, byte_under, Fault, read}
use Rattle.parse_info.specs.declared.ParseInfo.{ParseInfo}
use Rattle.parse_info.specs.declared.Code.{Code}
use Rattle.parse_info.specs.declared.InfoFault.{InfoFault}
use Rattle.parse_info.specs.declared.InfoFault.TheVariants.{PrefixShort, BadPrefix, CodeShort, UnsupportedCode, NextShort, PreviousShort}
use Rattle.parse_info.specs.Code.{is_supported, code_in, code_byte}

-- The rows of a head, for every reader of units. Each has its own names for a bad prefix and for a code outside the
-- profile, and its own further rules: on the code, on the next offset behind the code, and on the previous offset behind
-- both. The prefix is "BBCD".
unfoldable pub head_rows : {R : Type 0} → R → (ℕ → R) → (Code → List (Rule R)) → (Code → ℕ → List (Rule R))
    → (Code → ℕ → ℕ → List (Rule R)) → Rows R ParseInfo
head_rows bad_prefix unsupported code_rules next_rules previous_rules = do
  prefix ← word_under (λ v. (v == 0x42424344 or_else bad_prefix) ∷ [])
  code ← byte_under (λ v. (is_supported v or_else unsupported v) ∷ code_rules (code_in v))
  next ← word_under (next_rules (code_in code))
  previous ← word_under (previous_rules (code_in code) next)
  done (record { code = code_in code; next = next; previous = previous })

-- ---- a head alone

-- why a head is refused
pub data HeadReason : Type 0 where
  FieldShort : HeadReason
  WrongPrefix : HeadReason
  OtherCode : ℕ → HeadReason

-- the rows with no further rules
unfoldable pub plain_rows : Rows HeadReason ParseInfo
plain_rows = head_rows WrongPrefix OtherCode (λ code. []) (λ code next. []) (λ code next previous. [])

-- A field that is short is told by the bit where it begins, with the fields ahead of it: the code behind the prefix, and
-- the next offset behind the code.
abbrev pub short_fault : List ℕ → ℕ → InfoFault
short_fault bytes place =
    let code = code_in (slice_index (drop 4 bytes) 0) in
    let next = from_be_bytes w32 (take 4 (drop 1 (drop 4 bytes))) in
    if place == 0 then PrefixShort
    else (if place == 32 then CodeShort
    else (if place == 40 then NextShort code
    else PreviousShort code next))

-- the fault of a head's rows
abbrev pub info_fault : List ℕ → ℕ → HeadReason → InfoFault
info_fault bytes place FieldShort = short_fault bytes place
info_fault bytes place WrongPrefix = BadPrefix
info_fault bytes place (OtherCode code) = UnsupportedCode code

-- a head, or its fault
abbrev pub head_answer : List ℕ → Result (ParseInfo × Cursor) (Fault HeadReason) → Result ParseInfo InfoFault
head_answer bytes (Ok read) = Ok read.0
head_answer bytes (Err fault) = Err (info_fault bytes fault.place fault.reason)

-- the head in front of the bytes, or its first fault
unfoldable pub info_at : List ℕ → Result ParseInfo InfoFault
info_at bytes = head_answer bytes (read (λ fault. FieldShort) plain_rows (cursor_at bytes 0))

-- the bytes end inside the head
abbrev pub is_short : InfoFault → Bool
is_short BadPrefix = false
is_short (UnsupportedCode code) = false
is_short other = true

-- ---- a head as it is written: "BBCD", the code, and the two offsets

-- a head's bytes (parse_info)
abbrev pub head_bytes : ParseInfo → List ℕ
head_bytes info = (0x42 ∷ 0x42 ∷ 0x43 ∷ 0x44 ∷ [])
    ++ ((code_byte info.code ∷ []) ++ (to_be_bytes w32 info.next ++ to_be_bytes w32 info.previous))
