-- The table of the units of a stream, with the decoder of their pictures.
use Rattle.std.specs.Prelude.{◌≡◌, ◌≤◌, ℕ, Bool, true, List, [], ◌∷◌, ◌++◌, length, Option, Some, None}
use Rattle.sequence_header.specs.declared.parts.HeaderParts.{HeaderParts}
use Rattle.slice_geometry.specs.UnitLengths.{UnitShapesSeen}
use Rattle.transform_params.specs.Params.{Params}
use Rattle.slice_geometry.specs.Frames.{frame_of}
use Rattle.picture_codec.specs.Samples.{picture_of}
use Rattle.picture_codec.specs.Decoding.{PictureDecoderSeen, HasTaken}
use Rattle.stream_rows.specs.declared.reason.Reason.{Reason}
use Rattle.stream_rows.specs.Units.{Past, DataUnit, Picture, nothing_yet}
use Rattle.unit_reader.specs.declared.stop.ReadStop.{ReadStop}
use Rattle.stream_reader.specs.declared.parts.Found.{Found}
use Rattle.stream_reader.specs.declared.stop.Item.{Item}
use Rattle.stream_rows.specs.Streams.{frame_under}
use Rattle.stream_reader.specs.Turns.{IsUnitRead, IsTaker, shape_of}
use Rattle.stream_reader.specs.Reader.{item_of, header_behind}
use Rattle.stream_reader.specs.Held.{KeptBy, StopsHeld}

-- What is seen of it: whether it makes pictures, what the units so far leave, the header that was read last, their shapes,
-- and the decoder of the last picture unit whose parameters were read.
pub record StreamTableSeen : Type 0 where
  pub makes_pictures : Bool
  pub past : Past
  pub header : Option HeaderParts
  pub shapes : UnitShapesSeen
  pub decoder : Option PictureDecoderSeen

-- before the first unit
pub record IsNewStreamTable (makes_pictures : Bool) (table : StreamTableSeen) : Type 0 where
  pub makes : table.makes_pictures ≡ makes_pictures
  pub past : table.past ≡ nothing_yet
  pub header : table.header ≡ None
  pub shapes : table.shapes.units ≡ []
  pub decoder : table.decoder ≡ None

-- What was found is this unit of these bytes. Its shape has room, and the decoder is the one that was kept, but where a
-- picture was found, which has its own.
pub record IsFoundBy (before now : StreamTableSeen) (found : Found) (unit : DataUnit) (bytes : List ℕ) : Type 0 where
  pub makes : now.makes_pictures ≡ before.makes_pictures
  pub past : now.past ≡ before.past
  pub header : now.header ≡ before.header
  pub shapes : now.shapes.units ≡ before.shapes.units
  pub room : 1 ≤ now.shapes.spare
  pub is_read : IsUnitRead before.past found unit bytes
  pub kept : KeptBy found before.decoder now.decoder

-- the decoder that took these slices, and made the picture where it is asked for
pub record IsMaker (makes_pictures : Bool) (parts : HeaderParts) (params : Params) (slices : List (List ℕ))
    (d : PictureDecoderSeen) : Type 0 where
  pub taker : IsTaker parts params slices d
  pub picture : makes_pictures ≡ true → d.picture ≡ Some (picture_of (frame_under parts) params slices)

-- the decoder behind a unit: that of its picture, or the one that was kept
abbrev pub DecoderBehind : Bool → DataUnit → Option PictureDecoderSeen → Option PictureDecoderSeen → Type 0
DecoderBehind makes_pictures (Picture parts number params slices) old new =
    (d : PictureDecoderSeen) × (new ≡ Some d) × IsMaker makes_pictures parts params slices d
DecoderBehind makes_pictures other old new = new ≡ old

-- the item of a unit of these bytes, and what is behind it
pub record TellsUnit (before behind : StreamTableSeen) (unit : DataUnit) (bytes : List ℕ) (item : Item) : Type 0 where
  pub is_item : item ≡ item_of unit
  pub makes : behind.makes_pictures ≡ before.makes_pictures
  pub header : behind.header ≡ header_behind unit before.header
  pub shapes : behind.shapes.units ≡ before.shapes.units ++ shape_of before.past unit bytes ∷ []
  -- each slice has a byte
  pub few : (shape_of before.past unit bytes).slices ≤ length bytes
  pub decoder : DecoderBehind before.makes_pictures unit before.decoder behind.decoder

-- where a unit stops, the header and the shapes are those of the units so far
pub record StopsTable (before now : StreamTableSeen) (held0 : List ℕ) (rest0 : Option (List ℕ)) (held1 : List ℕ)
    (stop : ReadStop Reason) : Type 0 where
  pub makes : now.makes_pictures ≡ before.makes_pictures
  pub header : now.header ≡ before.header
  pub shapes : now.shapes.units ≡ before.shapes.units
  pub held : StopsHeld before.past held0 rest0 before.decoder now.decoder held1 stop

-- ---- the step behind a picture

-- A decoder that took all slices, and the same where a picture may have been made: it was, of the slices, where it is asked for.
pub record Makes (makes_pictures : Bool) (old new : PictureDecoderSeen) : Type 0 where
  pub same : new ≡ record old { picture = new.picture }
  pub picture : makes_pictures ≡ true → (slices : List (List ℕ)) → HasTaken slices old
      → new.picture ≡ Some (picture_of (frame_of old.shape) old.params slices)

-- the decoder that took a picture's slices is kept, where there is one
abbrev pub KeepsDecoder : Bool → Option PictureDecoderSeen → Option PictureDecoderSeen → Option PictureDecoderSeen → Type 0
KeepsDecoder makes_pictures None old new = new ≡ old
KeepsDecoder makes_pictures (Some took) old new = (d : PictureDecoderSeen) × (new ≡ Some d) × Makes makes_pictures took d
