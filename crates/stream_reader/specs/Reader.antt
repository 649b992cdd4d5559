-- The reader of a stream, over any source.
use Rattle.std.specs.Prelude.{◌≡◌, ◌≤◌, ℕ, Bool, true, false, List, [], ◌∷◌, ◌++◌, length, Option, Some, None, Result, Ok, Err}
use Rattle.std.specs.Io.KnownBytes.{IsAtEnd}
use Rattle.sequence_header.specs.declared.parts.HeaderParts.{HeaderParts}
use Rattle.slice_geometry.specs.declared.unit_list.UnitShape.{UnitShape}
use Rattle.slice_geometry.specs.Frames.{frame_of}
use Rattle.picture_codec.specs.Samples.{PictureSeen, picture_of}
use Rattle.run_theory.specs.Fronts.{Finishes}
use Rattle.run_theory.specs.Turn.{TakesUnit, MeetsFront}
use Rattle.stream_reader.specs.ReadStops.{ReadStop}
use Rattle.stream_rows.specs.declared.reason.Reason.TheVariants as reasons
use Rattle.stream_reader.specs.declared.stop.Item.{Item}
use Rattle.stream_reader.specs.declared.stop.Item.TheVariants as items
use Rattle.stream_rows.specs.Units.{Past, DataUnit, Sequence, Repeated, Picture, Skipped, End, units, after, nothing_yet}
use Rattle.stream_rows.specs.Streams.{limit, past_limit, frame_under}
use Rattle.planes.specs.declared.Trio.{Trio}
use Rattle.picture_codec.specs.Decoding.{PictureDecoderSeen, HasTaken, AllCanSynthesise, HoldUnit}
use Rattle.stream_reader.specs.Turns.{IsTaker, shape_of}
use Rattle.unit_reader.specs.Stops.{LimitStops}
use Rattle.stream_reader.specs.Held.{greatest_of, IsGreatestHeld}

-- What is seen of a reader: what the units so far leave, the header that was read last, the bytes that it holds, the shapes
-- of the units, the picture of the last one, the decoder that took it, the greatest share of the last picture unit whose
-- parameters were read, the stop that it keeps, and whether the stream is over.
pub record StreamReaderSeen : Type 0 where
  pub past : Past
  pub header : Option HeaderParts
  pub held : List ℕ
  pub shapes : List UnitShape
  pub picture : Option PictureSeen
  pub decoder : Option PictureDecoderSeen
  pub greatest : Option ℕ
  pub stop : Option ReadStop
  pub ended : Bool

-- a new reader
abbrev pub new_reader : StreamReaderSeen
new_reader = record {
  past = nothing_yet;
  header = None;
  held = [];
  shapes = [];
  picture = None;
  decoder = None;
  greatest = None;
  stop = None;
  ended = false;
}

-- the item of a unit behind which something follows
abbrev pub item_of : DataUnit → Item
item_of (Sequence parts) = items.Sequence
item_of Repeated = items.Repeated
item_of (Picture parts number params slices) = items.Picture number
item_of Skipped = items.Skipped
item_of End = items.SequenceEnd

-- the header that was read last, behind a unit
abbrev pub header_behind : DataUnit → Option HeaderParts → Option HeaderParts
header_behind (Sequence parts) before = Some parts
header_behind other before = before

-- the picture of a unit, if it has one, is shown
abbrev pub IsPictureOf : DataUnit → Option PictureSeen → Type 0
IsPictureOf (Picture parts number params slices) shown = (seen : PictureSeen) × (shown ≡ Some seen)
    × (frame_of seen.shape ≡ frame_under parts) × (seen.samples ≡ picture_of (frame_under parts) params slices)
IsPictureOf other shown = shown ≡ None

-- the decoder that took the slices of a unit's picture, if it has one
abbrev pub IsTakerOf : DataUnit → Option PictureDecoderSeen → Type 0
IsTakerOf (Picture parts number params slices) decoder = (d : PictureDecoderSeen) × (decoder ≡ Some d) × IsTaker parts params slices d
IsTakerOf other decoder = decoder ≡ None

-- the last item
abbrev pub is_end_item : Item → Bool
is_end_item items.End = true
is_end_item other = false

-- The bands are those of this decoder: those of the slices that it took, and synthesis may take them.
pub record AreBandsOf (d : PictureDecoderSeen) (bands : Trio) : Type 0 where
  pub same : bands ≡ d.bands
  pub ready : AllCanSynthesise d.params.slicing d.shape bands
  pub unit : (slices : List (List ℕ)) → HasTaken slices d → HoldUnit (frame_of d.shape) d.params slices bands

-- what is behind a unit of these bytes
pub record Steps (old new : Past) (unit : DataUnit) (bytes : List ℕ) (item : Item) (took : Option PictureDecoderSeen) : Type 0 where
  pub past : new ≡ after old unit bytes
  pub is_item : item ≡ item_of unit
  pub decoder : IsTakerOf unit took

-- The unit in front, of the bytes that were held and those that were read, was taken, an end of sequence where a byte
-- follows it: the others are held, and the reader is behind it.
pub record TakesStreamItem (old new : StreamReaderSeen) (rest0 rest1 : Option (List ℕ)) (item : Item) : Type 0 where
  pub unit : DataUnit
  pub bytes : List ℕ
  pub is_item : item ≡ item_of unit
  pub takes : TakesUnit limit past_limit units old.past old.held rest0 rest1 unit bytes new.held
  pub past : new.past ≡ after old.past unit bytes
  pub header : new.header ≡ header_behind unit old.header
  pub shapes : new.shapes ≡ old.shapes ++ shape_of old.past unit bytes ∷ []
  -- each slice has a byte
  pub few : (shape_of old.past unit bytes).slices ≤ length bytes
  pub picture : IsPictureOf unit new.picture
  pub decoder : IsTakerOf unit new.decoder
  pub going : (new.stop ≡ None) × (new.ended ≡ false)

-- The end of sequence in front was taken, and nothing is behind it.
pub record TakesEnd (old new : StreamReaderSeen) (rest0 rest1 : Option (List ℕ)) : Type 0 where
  pub bytes : List ℕ
  pub meets : MeetsFront limit past_limit units old.past old.held rest0 rest1 (Finishes (length bytes) End)
  pub whole : (more : List ℕ) → rest1 ≡ Some more → old.held ++ meets.read ++ more ≡ bytes
  pub last : IsAtEnd rest1
  pub past : new.past ≡ after old.past End bytes
  pub header : new.header ≡ old.header
  pub shapes : new.shapes ≡ old.shapes ++ shape_of old.past End bytes ∷ []
  pub none_taken : new.decoder ≡ None
  pub over : (new.held ≡ []) × (new.picture ≡ None) × (new.stop ≡ None) × (new.ended ≡ true)

-- A stop is kept; the units so far are as they were.
pub record KeepsStop (old new : StreamReaderSeen) (stop : ReadStop) : Type 0 where
  pub past : new.past ≡ old.past
  pub header : new.header ≡ old.header
  pub shapes : new.shapes ≡ old.shapes
  pub picture : new.picture ≡ None
  pub decoder : new.decoder ≡ None
  pub kept : new.stop ≡ Some stop
  pub ended : new.ended ≡ false

-- By how the call came out, of a reader that keeps no stop and whose stream isn't over.
abbrev pub NextItemOver : StreamReaderSeen → StreamReaderSeen → Option (List ℕ) → Option (List ℕ) → Result Item ReadStop → Type 0
NextItemOver old new rest0 rest1 (Ok items.End) = TakesEnd old new rest0 rest1
NextItemOver old new rest0 rest1 (Ok item) = TakesStreamItem old new rest0 rest1 item
NextItemOver old new rest0 rest1 (Err stop) =
    LimitStops units reasons.StreamTooLong old.past old.held rest0 rest1 stop × KeepsStop old new stop

-- The same of a reader that shows no picture: so does one that shows some picture, and is as this one otherwise.
abbrev pub NextUnshown : StreamReaderSeen → StreamReaderSeen → Option (List ℕ) → Option (List ℕ) → Result Item ReadStop → Type 0
NextUnshown old new rest0 rest1 result = (new.picture ≡ None)
    × (picture : Option PictureSeen) × NextItemOver old (record new { picture = picture }) rest0 rest1 result

-- The greatest share behind a call: that of the picture that was taken; behind another unit as before.
abbrev pub GreatestOver : StreamReaderSeen → StreamReaderSeen → Option (List ℕ) → Result Item ReadStop → Type 0
GreatestOver old new rest0 (Ok (items.Picture number)) = (shape : UnitShape) × (new.shapes ≡ old.shapes ++ shape ∷ [])
    × (new.greatest ≡ Some (greatest_of shape.a shape.b shape.slices))
GreatestOver old new rest0 (Ok item) = new.greatest ≡ old.greatest
GreatestOver old new rest0 (Err stop) = IsGreatestHeld old.past old.held rest0 old.greatest new.greatest new.held stop
