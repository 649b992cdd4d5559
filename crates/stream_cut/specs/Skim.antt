-- The units of a stream whose slices are skipped: their rows ask of a slice that its bytes are there, and nothing else.
use Rattle.std.specs.Prelude.{ℕ, zero, suc, List, [], ◌∷◌, ◌++◌, length, Option, Some, None}
use Rattle.field_rows.specs.Rows.{Rows, done, ◌>>=◌, bytes_under, word_under, renamed}
use Rattle.sequence_header.specs.declared.parts.HeaderParts.{HeaderParts}
use Rattle.parse_info.specs.declared.Code.{Code}
use Rattle.parse_info.specs.declared.Code.TheVariants.{LowDelayPicture}
use Rattle.parse_info.specs.declared.ParseInfo.{ParseInfo}
use Rattle.transform_params.specs.Params.{Params, params_rows}
use Rattle.slice_geometry.specs.Slicing.{slice_count}
use Rattle.run_theory.specs.Grammar.{Grammar}
use Rattle.stream_rows.specs.declared.reason.Reason.{Reason}
use Rattle.stream_rows.specs.Refusals.{Refusal}
use Rattle.stream_rows.specs.Streams.{Entry, units_by, IsStreamBy, IsRefusalBy, HasOneAnswerBy}
use Rattle.stream_rows.specs.Units.{Past, First, DataUnit, Picture, transform_reason, number_rules, next_checked, share, unit_head, payload_of, payload_rows}

-- the slices that are left of a picture, behind those so far
unfoldable pub skim_slices : Params → ℕ → List (List ℕ) → Rows Reason (List (List ℕ))
skim_slices p zero so_far = done so_far
skim_slices p (suc left) so_far = do
  slice ← bytes_under (share p (length so_far)) (λ bytes. [])
  skim_slices p left (so_far ++ slice ∷ [])

-- the payload of a picture: its number, the transform parameters, and its slices row by row
unfoldable pub skim_picture : Past → ℕ → HeaderParts → Rows Reason DataUnit
skim_picture z next parts = do
  number ← word_under (number_rules z)
  params ← renamed transform_reason params_rows
  slices ← skim_slices params (slice_count params.slicing) []
  length ← next_checked z next
  done (Picture parts number params slices)

-- the payload of each kind: that of a picture is skimmed
unfoldable pub skim_payload_of : Past → First → ℕ → Code → Rows Reason DataUnit
skim_payload_of z first next LowDelayPicture = skim_picture z next first.parts
skim_payload_of z first next other = payload_of z first next other

-- the payload that a head announces, of a sequence's first unit or a later one
unfoldable pub skim_payload : Past → Option First → ParseInfo → Rows Reason DataUnit
skim_payload z None head = payload_rows z None head
skim_payload z (Some first) head = skim_payload_of z first head.next head.code

-- all rows of a unit: its head, and the payload of its kind
unfoldable pub skim_rows : Past → Rows Reason DataUnit
skim_rows z = do
  head ← unit_head z
  skim_payload z z.first head

-- The units of a stream that is skimmed.
abbrev pub skim_grammar : Grammar Past Reason DataUnit
skim_grammar = units_by skim_rows

-- The bytes are a stream of these units and the last one, whatever their slices hold.
abbrev pub IsSkimStream : List ℕ → List Entry → Entry → Type 0
IsSkimStream bytes es last = IsStreamBy skim_rows bytes es last

-- a refusal of a skimmed stream
abbrev pub IsSkimRefusal : List ℕ → Refusal → Type 0
IsSkimRefusal bytes refusal = IsRefusalBy skim_rows bytes refusal

-- The bytes are exactly one skimmed stream, or have exactly one refusal, and never both.
abbrev pub HasOneSkimAnswer : List ℕ → Type 0
HasOneSkimAnswer bytes = HasOneAnswerBy skim_rows bytes
