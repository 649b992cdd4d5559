-- How the unit in front of a stream is read from a source: what each answer says of the bytes that were held at entry
-- and then those that were read.
use Rattle.std.specs.Prelude.{◌≡◌, ◌≤◌, ◌<◌, ℕ, ◌+◌, ◌-◌, ◌^◌, List, length, take, drop, Option, Some, None, Result, Ok, Err, MatchResult, Bool, true, false}
use Rattle.parse_info.specs.declared.TheConstants.{HEAD_SIZE}
use Rattle.field_rows.specs.Rows.{done, ◌>>=◌}
use Rattle.slice_geometry.specs.declared.unit_list.UnitShape.{UnitShape}
use Rattle.slice_geometry.specs.Slicing.{slice_count, total_bytes}
use Rattle.sequence_header.specs.declared.parts.HeaderParts.{HeaderParts}
use Rattle.transform_params.specs.Params.{Params}
use Rattle.slice_geometry.specs.Frames.{frame_of}
use Rattle.picture_codec.specs.Decoding.{PictureDecoderSeen, HasTaken, wanted_of}
use Rattle.run_theory.specs.Begun.{Begun}
use Rattle.unit_reader.specs.declared.stop.ReadStop.{ReadStop}
use Rattle.stream_reader.specs.declared.pictures.Shown.{Shown}
use Rattle.stream_reader.specs.declared.parts.Found.{Found}
use Rattle.stream_reader.specs.declared.parts.Found.TheVariants as founds
use Rattle.unit_reader.specs.Asking.{WindowSeen}
use Rattle.stream_rows.specs.Units.{Past, First, DataUnit, Sequence, Repeated, Picture, Skipped, End, units, next_checked}
use Rattle.stream_rows.specs.Streams.{frame_under}
use Rattle.stream_rows.specs.declared.reason.Reason.{Reason}
use Rattle.unit_reader.specs.Stops.{ReadsRows, StopsOver}

-- a unit of which this is true was read; the bytes behind it are held
abbrev pub Takes : Past → List ℕ → Option (List ℕ) → Option (List ℕ) → ℕ → List ℕ → (DataUnit → List ℕ → Type 0) → Type 0
Takes z held0 rest0 rest1 room held1 IsSuch = ReadsRows units z held0 rest0 rest1 (record { held = held1; room = room })
    (λ unit bytes. IsSuch unit bytes × (length bytes < 2 ^ 32))

-- ---- what units are

-- the first header, with the bytes of its payload
abbrev pub IsFirstHeader : First → DataUnit → List ℕ → Type 0
IsFirstHeader first unit bytes = (unit ≡ Sequence first.parts) × (first.payload ≡ drop HEAD_SIZE bytes)

-- the decoder took all slices of a picture, and can make it
pub record HasAllSlices (d : PictureDecoderSeen) : Type 0 where
  pub none_refused : d.refused ≡ false
  pub none_wanted : wanted_of d ≡ None

-- these are its slices
pub record IsTaker (parts : HeaderParts) (params : Params) (slices : List (List ℕ)) (d : PictureDecoderSeen) : Type 0 where
  pub frame : frame_of d.shape ≡ frame_under parts
  pub params_are : d.params ≡ params
  pub taken : HasTaken slices d
  pub whole : HasAllSlices d

-- the shape of a unit's bytes: a picture's slices stand behind its head
abbrev pub shape_of : Past → DataUnit → List ℕ → UnitShape
shape_of z (Picture parts number params slices) bytes = record {
  start = z.place;
  head = length bytes - total_bytes params.slicing;
  slices = slice_count params.slicing;
  a = params.slicing.a;
  b = params.slicing.b;
}
shape_of z other bytes = record { start = z.place; head = length bytes; slices = 0; a = 1; b = 1 }

-- A sequence header was read, and stands in front of the bytes that are held; n bytes of its unit are gone.
pub record ReadsHeader (z : Past) (next : ℕ) (held0 : List ℕ) (rest0 rest1 : Option (List ℕ)) (held1 : List ℕ)
    (parts : HeaderParts) (len : ℕ) : Type 0 where
  pub inside : len ≤ length held1
  pub begun : Begun units z held0 rest0 rest1 (z.place + HEAD_SIZE + len) (drop len held1)
      (next_checked z next >>= λ length. done (Sequence parts))
  pub payload : drop HEAD_SIZE begun.gone ≡ take len held1

-- a header is read, or the stop that the units owe
abbrev pub HeaderOver : Past → ℕ → List ℕ → Option (List ℕ) → Option (List ℕ) → WindowSeen
    → Result (HeaderParts × ℕ) (ReadStop Reason) → Type 0
HeaderOver z next held0 rest0 rest1 window (Ok x) = ReadsHeader z next held0 rest0 rest1 window.held x.0 x.1
HeaderOver z next held0 rest0 rest1 window (Err stop) = StopsOver units z held0 rest0 rest1 window.room stop

-- a picture that was read, of pictures under this header
pub record IsShown (parts : HeaderParts) (shown : Shown) (unit : DataUnit) (bytes : List ℕ) : Type 0 where
  pub params : Params
  pub slices : List (List ℕ)
  pub is_picture : unit ≡ Picture parts shown.number params slices
  pub layout : shown.layout ≡ params.slicing
  pub head : length bytes ≡ shown.head + total_bytes params.slicing
  pub taker : IsTaker parts params slices shown.decoder

-- how the payload of a picture comes out
abbrev pub PictureOver : Past → List ℕ → Option (List ℕ) → Option (List ℕ) → WindowSeen → HeaderParts
    → Result Shown (ReadStop Reason) → Type 0
PictureOver z held0 rest0 rest1 window parts result = MatchResult result
    (λ shown. Takes z held0 rest0 rest1 window.room window.held (IsShown parts shown))
    (λ stop. StopsOver units z held0 rest0 rest1 window.room stop)

-- ---- a unit, whichever it is

-- how a unit comes out
abbrev pub TakesOver : {X : Type 0} → Past → List ℕ → Option (List ℕ) → Option (List ℕ) → WindowSeen
    → (X → DataUnit → List ℕ → Type 0) → Result X (ReadStop Reason) → Type 0
TakesOver z held0 rest0 rest1 window IsSuch result = MatchResult result
    (λ x. Takes z held0 rest0 rest1 window.room window.held (IsSuch x))
    (λ stop. StopsOver units z held0 rest0 rest1 window.room stop)

-- what was found is this unit of these bytes
abbrev pub IsFound : Past → Found → DataUnit → List ℕ → Type 0
IsFound z (founds.Sequence first) unit bytes = IsFirstHeader first unit bytes
IsFound z founds.Repeated unit bytes = unit ≡ Repeated
IsFound z (founds.Picture shown) unit bytes = (first : First) × (z.first ≡ Some first) × IsShown first.parts shown unit bytes
IsFound z founds.Skipped unit bytes = unit ≡ Skipped
IsFound z founds.End unit bytes = unit ≡ End

-- it is an end of sequence
abbrev pub is_end_found : Found → Bool
is_end_found founds.End = true
is_end_found other = false

-- and it is as long as a unit may be
abbrev pub IsUnitRead : Past → Found → DataUnit → List ℕ → Type 0
IsUnitRead z found unit bytes = IsFound z found unit bytes × (length bytes < 2 ^ 32)

-- by how the unit came out, of an input that ends where the room does
abbrev pub FoundOver : Past → List ℕ → Option (List ℕ) → Option (List ℕ) → WindowSeen → Result Found (ReadStop Reason) → Type 0
FoundOver z held0 rest0 rest1 window result = TakesOver z held0 rest0 rest1 window (IsFound z) result
