-- Units by their heads alone, whatever the stream is otherwise: a table of units beside that of a stream.
use Rattle.std.specs.Prelude.{ℕ, ◌+◌, ◌-◌, Bool, true, ◌||◌, [], ◌∷◌, length, nat_le, if◌then◌else◌}
use Rattle.parse_info.specs.declared.TheConstants.{HEAD_SIZE}
use Rattle.field_rows.specs.Rows.{◌or_else◌, Rows, done, ◌>>=◌, bytes_under}
use Rattle.parse_info.specs.declared.Code.{Code}
use Rattle.parse_info.specs.declared.ParseInfo.{ParseInfo}
use Rattle.parse_info.specs.Head.{head_rows}
use Rattle.run_theory.specs.Grammar.{Grammar, Inner}
use Rattle.stream_rows.specs.declared.reason.Reason.{Reason}
use Rattle.stream_rows.specs.declared.reason.Reason.TheVariants as reasons
use Rattle.stream_rows.specs.Units.{is_truncated, reason_of, is_end_code}

-- a next offset leads past its own head; that of an end of sequence has no meaning
abbrev pub leads_on : Code → ℕ → Bool
leads_on code next = is_end_code code || nat_le HEAD_SIZE next

-- the bytes behind the head
abbrev pub payload_length : ParseInfo → ℕ
payload_length info = if is_end_code info.code then 0 else info.next - HEAD_SIZE

-- the head: prefix, code and offsets
unfoldable pub head_only_head : Rows Reason ParseInfo
head_only_head = head_rows reasons.BadPrefix reasons.UnsupportedCode (λ code. [])
    (λ code next. (leads_on code next or_else reasons.OffsetShort) ∷ []) (λ code next previous. [])

-- the payload, whatever it is
unfoldable pub head_only_payload : ParseInfo → Rows Reason ParseInfo
head_only_payload info = do
  payload ← bytes_under (payload_length info) (λ bytes. [])
  done info

-- a unit by its head: the payload is skipped
unfoldable pub head_only_unit : Rows Reason ParseInfo
head_only_unit = do
  info ← head_only_head
  head_only_payload info

-- The table of these units: a unit leaves the place behind it, and the input may be over before each.
abbrev pub heads : Grammar ℕ Reason ParseInfo
heads = record {
  reason_of = reason_of;
  is_short = is_truncated;
  rows = λ place. head_only_unit;
  place = λ place. place;
  after = λ place info bytes. place + length bytes;
  behind = λ info. Inner;
  rests = λ place. true;
}
