-- The reader of a stream, over the reader of its table.
use Rattle.std.specs.Prelude.{◌≡◌, ◌≤◌, Bool, true, false, length, Option, Some, None, Result, Ok, Err}
use Rattle.std.specs.Option.{option_map}
use Rattle.picture_codec.specs.Samples.{PictureSamples, PictureSeen}
use Rattle.picture_codec.specs.Decoding.{PictureDecoderSeen}
use Rattle.stream_rows.specs.declared.reason.Reason.{Reason}
use Rattle.unit_reader.specs.declared.reader.Turn.{Turn}
use Rattle.unit_reader.specs.declared.reader.Turn.TheVariants as turns
use Rattle.unit_reader.specs.Reading.{ReaderSeen}
use Rattle.stream_reader.specs.ReadStops.{ReadStop}
use Rattle.stream_reader.specs.declared.stop.Item.{Item}
use Rattle.stream_reader.specs.declared.stop.Item.TheVariants as items
use Rattle.stream_reader.specs.Reader.{StreamReaderSeen}
use Rattle.stream_reader.specs.StreamTable.{StreamTableSeen}
use Rattle.stream_reader.specs.Held.{held_most, greatest_in}
use Rattle.stream_reader.specs.Turns.{HasAllSlices}

-- the picture that a decoder finished
abbrev pub seen_of : PictureDecoderSeen → Option PictureSeen
seen_of d = option_map (λ (samples : PictureSamples). record { shape = d.shape; samples = samples }) d.picture

-- the picture that is shown, if one is
abbrev pub picture_in : Bool → Option PictureDecoderSeen → Option PictureSeen
picture_in true (Some d) = seen_of d
picture_in true None = None
picture_in false decoder = None

-- where a picture is shown, there is a decoder that finished one
abbrev pub ShowsOne : Bool → Option PictureDecoderSeen → Type 0
ShowsOne true (Some d) = d.picture ≡ None → ⊥
ShowsOne true None = ⊥
ShowsOne false decoder = Unit {0}

-- the decoder that took the picture of the last unit, if that unit has one
abbrev pub taker_in : Bool → Option PictureDecoderSeen → Option PictureDecoderSeen
taker_in true decoder = decoder
taker_in false decoder = None

-- where one is shown, it took all slices
abbrev pub ShowsWhole : Bool → Option PictureDecoderSeen → Type 0
ShowsWhole true (Some d) = HasAllSlices d
ShowsWhole true None = ⊥
ShowsWhole false decoder = Unit {0}

-- what is seen of it, by the reader over its table
abbrev pub stream_seen : ReaderSeen StreamTableSeen Reason → Bool → StreamReaderSeen
stream_seen r shows = record {
  past = r.table.past;
  header = r.table.header;
  held = r.held;
  shapes = r.table.shapes.units;
  picture = picture_in shows r.table.decoder;
  decoder = taker_in shows r.table.decoder;
  greatest = greatest_in r.table.decoder;
  stop = r.stop;
  ended = r.ended;
}

-- the same of a reader that makes no pictures
abbrev pub unshown_by : ReaderSeen StreamTableSeen Reason → Bool → StreamReaderSeen
unshown_by r shows = record (stream_seen r shows) { picture = None }

-- what a turn tells; with the last unit and behind it, it is the end
abbrev pub answer_of : Result (Turn Item) ReadStop → Result Item ReadStop
answer_of (Ok (turns.Unit item)) = Ok item
answer_of (Ok (turns.Last item)) = Ok items.End
answer_of (Ok turns.Rest) = Ok items.End
answer_of (Err stop) = Err stop

-- a picture is shown behind its unit
abbrev pub is_shown : Result Item ReadStop → Bool
is_shown (Ok (items.Picture number)) = true
is_shown (Ok other) = false
is_shown (Err stop) = false

-- whatever the last call answered, no more is held than beside the greatest share
abbrev pub HoldsFew : ReaderSeen StreamTableSeen Reason → Type 0
HoldsFew r = length r.held ≤ held_most (greatest_in r.table.decoder)

-- a reader that makes pictures, and shows the last one where it says so
pub record IsReaderSound (r : ReaderSeen StreamTableSeen Reason) (shows : Bool) : Type 0 where
  pub makes : r.table.makes_pictures ≡ true
  pub shown : ShowsOne shows r.table.decoder
  pub whole : ShowsWhole shows r.table.decoder
  -- a stopped reader shows no picture, and neither does one at the end
  pub stopped : (stop : ReadStop) → r.stop ≡ Some stop → shows ≡ false
  pub over : r.ended ≡ true → shows ≡ false
  pub held : HoldsFew r

-- the same of one that makes none
pub record IsShowing (r : ReaderSeen StreamTableSeen Reason) (shows : Bool) : Type 0 where
  pub whole : ShowsWhole shows r.table.decoder
  pub stopped : (stop : ReadStop) → r.stop ≡ Some stop → shows ≡ false
  pub over : r.ended ≡ true → shows ≡ false
  pub held : HoldsFew r
