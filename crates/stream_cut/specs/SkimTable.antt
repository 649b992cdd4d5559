-- The table of the units of a stream that is skimmed.
use Rattle.std.specs.Prelude.{◌≡◌, ◌≢◌, ℕ, ◌+◌, ◌≤◌, ◌<◌, ◌^◌, List, length, drop, Option, Some, None}
use Rattle.parse_info.specs.declared.TheConstants.{HEAD_SIZE}
use Rattle.sequence_header.specs.declared.parts.HeaderParts.{HeaderParts}
use Rattle.slice_geometry.specs.declared.unit_list.UnitShape.{UnitShape}
use Rattle.slice_geometry.specs.Slicing.{IsAllowed, slice_count, total_bytes}
use Rattle.transform_params.specs.Params.{Params}
use Rattle.stream_rows.specs.Units.{Past, First, DataUnit, Sequence, Repeated, Picture, Skipped, End}
use Rattle.stream_reader.specs.Reader.{header_behind}
use Rattle.stream_reader.specs.Turns.{shape_of}
use Rattle.stream_cut.specs.declared.table.Found.{Found}
use Rattle.stream_cut.specs.declared.table.Found.TheVariants as founds
use Rattle.stream_cut.specs.declared.table.SkimItem.{SkimItem}
use Rattle.stream_cut.specs.declared.table.SkimItem.TheVariants as items

-- What is seen of it: what the units so far leave, the header that was read last, the last header's or picture's unit, and the
-- shape of the last picture.
pub record SkimTableSeen : Type 0 where
  pub past : Past
  pub header : Option HeaderParts
  pub unit : List ℕ
  pub shape : UnitShape

-- what was found is this unit
abbrev pub IsSkimFound : Past → Found → DataUnit → List ℕ → Type 0
IsSkimFound z (founds.Sequence first) unit bytes = (unit ≡ Sequence first.parts) × (first.payload ≡ drop HEAD_SIZE bytes)
IsSkimFound z founds.Repeated unit bytes = unit ≡ Repeated
IsSkimFound z (founds.Picture picture) unit bytes = (first : First) × (params : Params) × (slices : List (List ℕ)) × (z.first ≡ Some first)
    × (unit ≡ Picture first.parts picture.number params slices) × (picture.slices ≡ slice_count params.slicing)
    × (picture.a ≡ params.slicing.a) × (picture.b ≡ params.slicing.b) × (length bytes ≡ picture.head + total_bytes params.slicing)
    × IsAllowed params.slicing
IsSkimFound z founds.Skipped unit bytes = unit ≡ Skipped
IsSkimFound z founds.End unit bytes = unit ≡ End

-- the unit that is kept behind one of these bytes
abbrev pub kept_behind : DataUnit → List ℕ → List ℕ → List ℕ
kept_behind (Sequence parts) bytes before = bytes
kept_behind Repeated bytes before = bytes
kept_behind (Picture parts number p slices) bytes before = bytes
kept_behind Skipped bytes before = before
kept_behind End bytes before = before

-- before the first picture: of no byte and no slice
abbrev pub first_shape : UnitShape
first_shape = record { start = 0; head = 0; slices = 0; a = 1; b = 1 }

-- the shape of the last picture's unit, behind a unit of these bytes
abbrev pub shape_behind : Past → DataUnit → List ℕ → UnitShape → UnitShape
shape_behind z (Picture parts number p slices) bytes before = shape_of z (Picture parts number p slices) bytes
shape_behind z other bytes before = before

-- what a unit is told as
abbrev pub item_of : DataUnit → SkimItem
item_of (Sequence parts) = items.Sequence
item_of Repeated = items.Repeated
item_of (Picture parts number p slices) = items.Picture
item_of Skipped = items.Skipped
item_of End = items.SequenceEnd

-- what was found is this unit of these bytes, which are kept where it is a header or a picture
pub record IsSkimFoundBy (before now : SkimTableSeen) (found : Found) (unit : DataUnit) (bytes : List ℕ) : Type 0 where
  pub past : now.past ≡ before.past
  pub header : now.header ≡ before.header
  pub shape : now.shape ≡ before.shape
  pub is_found : IsSkimFound before.past found unit bytes
  pub kept : now.unit ≡ kept_behind unit bytes before.unit
  pub long : HEAD_SIZE ≤ length bytes
  pub short : length bytes < 2 ^ 32

-- what is true of a unit of these bytes: a picture stands under a header, and its slices are within their limits
abbrev pub IsKnownUnit : Past → DataUnit → List ℕ → Type 0
IsKnownUnit z (Picture parts number p slices) bytes = (z.first ≢ None) × IsAllowed p.slicing × (total_bytes p.slicing ≤ length bytes)
IsKnownUnit z (Sequence parts) bytes = Unit {0}
IsKnownUnit z Repeated bytes = Unit {0}
IsKnownUnit z Skipped bytes = Unit {0}
IsKnownUnit z End bytes = Unit {0}

-- the item of a unit of these bytes, and what is behind it
pub record TellsSkimUnit (before behind : SkimTableSeen) (unit : DataUnit) (bytes : List ℕ) (item : SkimItem) : Type 0 where
  pub is_item : item ≡ item_of unit
  pub header : behind.header ≡ header_behind unit before.header
  pub kept : behind.unit ≡ kept_behind unit bytes before.unit
  pub shape : behind.shape ≡ shape_behind before.past unit bytes before.shape
  pub long : HEAD_SIZE ≤ length bytes
  pub short : length bytes < 2 ^ 32
  pub holds : IsKnownUnit before.past unit bytes

-- where a unit stops, the header and the shape are as before, and few bytes are held; any bytes may be kept
pub record KeepsSkimHeader (before now : SkimTableSeen) (held : List ℕ) : Type 0 where
  pub header : now.header ≡ before.header
  pub shape : now.shape ≡ before.shape
  pub few : length held ≤ 8192
