-- A picture's header is that of its sequence.
use Rattle.std.proofs.Common.{◌≡◌, ◌⊎◌, ℕ, List, ◌++◌, length, Option, Some, None, refl}
use Rattle.parse_info.specs.declared.ParseInfo.{ParseInfo}
use Rattle.parse_info.specs.declared.Code.{Code}
use Rattle.parse_info.specs.declared.Code.TheVariants.{SequenceHeader, EndOfSequence, Auxiliary, Padding, LowDelayPicture}
use Rattle.run_theory.specs.Grammar.{Final}
use Rattle.run_theory.specs.Fronts.{Stands, front_within}
use Rattle.stream_rows.specs.Refusals.{Refusal}
use Rattle.stream_rows.specs.Streams.{Entry, limit, past_limit, IsStream, IsRefusal}
use Rattle.stream_rows.specs.Units.{Past, First, DataUnit, Picture, nothing_yet, unit_head, first_payload, repeated_payload, picture_payload, skipped_payload, payload_of, payload_rows, unit_behind, unit_rows, units}
use Rattle.stream_rows.proofs.Made.{Make, skip, AreSuch, passed_such, stream_such, refusal_such}

-- a picture's header is its sequence's
abbrev pub IsUnder : Past → DataUnit → Type 0
IsUnder z (Picture parts number params slices) = (first : First) × (z.first ≡ Some first) × (parts ≡ first.parts)
IsUnder z other = Unit {0}

-- ---- the rows of a unit

picture_under : (z : Past) (next : ℕ) (first : First) → z.first ≡ Some first → Make (IsUnder z) (picture_payload z next first.parts)
unfolding picture_payload
picture_under z next first is =
    skip (IsUnder z) _ (λ number. skip (IsUnder z) _ (λ params. skip (IsUnder z) _ (λ slices. skip (IsUnder z) _ (λ length. record { all = (first, is, refl) }))))

skipped_under : (z : Past) (next : ℕ) → Make (IsUnder z) (skipped_payload next)
unfolding skipped_payload
skipped_under z next = skip (IsUnder z) _ (λ payload. record { all = tt })

repeated_under : (z : Past) (next : ℕ) (first : First) → Make (IsUnder z) (repeated_payload z next first)
unfolding repeated_payload
repeated_under z next first = skip (IsUnder z) _ (λ payload. skip (IsUnder z) _ (λ length. record { all = tt }))

first_under : (z : Past) (next : ℕ) → Make (IsUnder z) (first_payload z next)
unfolding first_payload
first_under z next = skip (IsUnder z) _ (λ parts. skip (IsUnder z) _ (λ length. record { all = tt }))

payload_under : (z : Past) (first : First) (next : ℕ) (code : Code) → z.first ≡ Some first → Make (IsUnder z) (payload_of z first next code)
unfolding payload_of
payload_under z first next SequenceHeader is = repeated_under z next first
payload_under z first next EndOfSequence is = record { all = tt }
payload_under z first next LowDelayPicture is = picture_under z next first is
payload_under z first next Auxiliary is = skipped_under z next
payload_under z first next Padding is = skipped_under z next

rows_under : (z : Past) (first : Option First) (head : ParseInfo) → z.first ≡ first → Make (IsUnder z) (payload_rows z first head)
unfolding payload_rows
rows_under z None head is = first_under z head.next
rows_under z (Some first) head is = payload_under z first head.next head.code is

unit_under : (z : Past) → Make (IsUnder z) (unit_rows z)
unfolding unit_rows
unit_under z = skip (IsUnder z) (unit_head z) (λ head. rows_under z z.first head refl)

-- ---- and the units of a stream, or before a fault

pub passed_under : (z : Past) (bytes : List ℕ) (unit : DataUnit) → (unit_behind unit ≡ Final) ⊎ ((still : List ℕ) × (front_within limit past_limit units z (bytes ++ still) ≡ Stands (length bytes) unit)) → IsUnder z unit
passed_under z bytes unit stands = passed_such IsUnder unit_under z bytes unit tt stands

pub stream_under : (bytes : List ℕ) (es : List Entry) (last : Entry) → IsStream bytes es last → AreSuch IsUnder nothing_yet es
stream_under = stream_such IsUnder unit_under

pub refusal_under : (bytes : List ℕ) (refusal : Refusal) (r : IsRefusal bytes refusal) → AreSuch IsUnder nothing_yet r.units
refusal_under = refusal_such IsUnder unit_under
