-- What a unit begins with.
use Rattle.std.specs.Prelude.{◌≡◌, ◌≤◌, ◌<◌, ℕ, ◌+◌, List, [], ◌∷◌, length, drop, Option, Some, None, Result, Ok, Err}
use Rattle.std.specs.Prelude.{nat_eq}
use Rattle.std.specs.List.{starts_with}
use Rattle.parse_info.specs.declared.TheConstants.{HEAD_SIZE}
use Rattle.field_rows.specs.Rows.{◌or_else◌, Rows, done, ◌>>=◌, bytes_under, word_under, renamed, read, Fault}
use Rattle.parse_info.specs.declared.Code.{Code}
use Rattle.parse_info.specs.declared.Code.TheVariants.{SequenceHeader, EndOfSequence, Auxiliary, Padding, LowDelayPicture}
use Rattle.parse_info.specs.declared.ParseInfo.{ParseInfo}
use Rattle.sequence_header.specs.declared.parts.HeaderParts.{HeaderParts}
use Rattle.sequence_header.specs.Header.{header_rows}
use Rattle.transform_params.specs.Params.{Params, params_rows}
use Rattle.transform_params.specs.Views.{params_of}
use Rattle.run_theory.specs.Grammar.{bytes_at}
use Rattle.stream_rows.specs.declared.reason.Reason.{Reason}
use Rattle.stream_rows.specs.declared.reason.Reason.TheVariants as reasons
use Rattle.stream_rows.specs.Refusals.{Refusal}
use Rattle.stream_rows.specs.Units.{Past, First, reason_of, header_reason, transform_reason, number_rules, next_checked, unit_head}
use Rattle.stream_rows.specs.Streams.{refusal_of}
use Rattle.run_theory.specs.Begun.{Begun}
use Rattle.unit_reader.specs.Asking.{WindowSeen}
use Rattle.unit_reader.specs.Stops.{StopsOver}
use Rattle.unit_reader.specs.declared.stop.ReadStop.{ReadStop}
use Rattle.stream_cut.specs.Skim.{skim_rows, skim_grammar}
use Rattle.stream_cut.specs.declared.opening.Opening.{Opening}
use Rattle.stream_cut.specs.declared.opening.Opening.TheVariants as openings

-- what a unit is by its beginning: a header or an end whole, a picture up to its slices, with its next offset, and other data
-- up to the payload
pub data Opened : Type 0 where
  OpensSequence : HeaderParts → Opened
  OpensRepeated : Opened
  OpensPicture : HeaderParts → ℕ → Params → ℕ → Opened
  OpensSkipped : ℕ → Opened
  OpensEnd : Opened

-- ---- its rows

-- a sequence's first header, whole
unfoldable pub open_first : Past → ℕ → Rows Reason Opened
open_first z next = do
  parts ← renamed header_reason header_rows
  length ← next_checked z next
  done (OpensSequence parts)

-- a repeated header, whole
unfoldable pub open_repeated : Past → ℕ → First → Rows Reason Opened
open_repeated z next first = do
  payload ← bytes_under (length first.payload) (λ bytes.
      (starts_with nat_eq bytes first.payload or_else reasons.HeaderDiffers) ∷ [])
  length ← next_checked z next
  done OpensRepeated

-- a picture up to its slices: its number and the transform parameters
unfoldable pub open_picture : Past → ℕ → HeaderParts → Rows Reason Opened
open_picture z next parts = do
  number ← word_under (number_rules z)
  params ← renamed transform_reason params_rows
  done (OpensPicture parts number params next)

-- the beginning of the payload of each kind
unfoldable pub open_payload_of : Past → First → ℕ → Code → Rows Reason Opened
open_payload_of z first next SequenceHeader = open_repeated z next first
open_payload_of z first next EndOfSequence = done OpensEnd
open_payload_of z first next LowDelayPicture = open_picture z next first.parts
open_payload_of z first next Auxiliary = done (OpensSkipped next)
open_payload_of z first next Padding = done (OpensSkipped next)

-- the beginning of the payload that a head announces, of a sequence's first unit or a later one
unfoldable pub open_payload : Past → Option First → ParseInfo → Rows Reason Opened
open_payload z None head = open_first z head.next
open_payload z (Some first) head = open_payload_of z first head.next head.code

-- the head, and the beginning of the payload
unfoldable pub open_rows : Past → Rows Reason Opened
open_rows z = do
  head ← unit_head z
  open_payload z z.first head

-- ---- as the code answers it

-- an opening of so many bytes of the unit
abbrev pub IsOpened : Option First → Opening → ℕ → Opened → Type 0
IsOpened first (openings.Sequence header) size opened = opened ≡ OpensSequence header
IsOpened first openings.Repeated size opened = opened ≡ OpensRepeated
IsOpened first (openings.Picture picture) size opened =
    (f : First) × (first ≡ Some f) × (opened ≡ OpensPicture f.parts picture.number (params_of picture.params) picture.next)
IsOpened first (openings.Skipped next) size opened = (opened ≡ OpensSkipped next) × (size ≡ HEAD_SIZE)
IsOpened first openings.End size opened = opened ≡ OpensEnd

-- Rows that begin behind so many bytes of a unit: what they make, and the bytes of the unit with theirs; or their first fault,
-- which is a short field only in few bytes.
abbrev pub OpensBy : Past → Rows Reason Opened → ℕ → List ℕ → Result (Opening × ℕ) Refusal → Type 0
OpensBy z rows base bytes (Ok x) = (opened : Opened) × (size : ℕ) × IsOpened z.first x.0 x.1 opened × (x.1 ≡ base + size)
    × (size ≤ length bytes) × ((13 ≤ base + size) × (base + size ≤ 525))
    × (read reason_of rows (bytes_at (z.place + base) bytes) ≡ Ok (opened, bytes_at (z.place + base + size) (drop size bytes)))
OpensBy z rows base bytes (Err refusal) = (fault : Fault Reason) × (refusal ≡ refusal_of fault)
    × (read reason_of rows (bytes_at (z.place + base) bytes) ≡ Err fault)
    × (fault.reason ≡ reasons.Truncated → base + length bytes < 620)

-- so many of the bytes that are held are what the unit in front of them begins with
abbrev pub Opens : Past → List ℕ → Opening → ℕ → Type 0
Opens z held opening size = OpensBy z (open_rows z) 0 held (Ok (opening, size))

-- The beginning of a unit stands in front of the bytes that are held, or the unit stops in it; nothing of it is gone.
abbrev pub OpenOver : Past → List ℕ → Option (List ℕ) → Option (List ℕ) → WindowSeen → Result (Opening × ℕ) (ReadStop Reason) → Type 0
OpenOver z held0 rest0 rest1 window (Ok x) =
    Begun skim_grammar z held0 rest0 rest1 z.place window.held (skim_rows z) × OpensBy z (open_rows z) 0 window.held (Ok x)
OpenOver z held0 rest0 rest1 window (Err stop) = StopsOver skim_grammar z held0 rest0 rest1 window.room stop
