-- The reader of a stream that is skimmed, over any source.
use Rattle.std.specs.Prelude.{◌≡◌, ℕ, ◌++◌, Bool, true, false, List, [], length, Option, Some, None, Result, Ok, Err}
use Rattle.std.specs.Io.KnownBytes.{IsAtEnd}
use Rattle.sequence_header.specs.declared.parts.HeaderParts.{HeaderParts}
use Rattle.slice_geometry.specs.declared.unit_list.UnitShape.{UnitShape}
use Rattle.run_theory.specs.Fronts.{Finishes}
use Rattle.run_theory.specs.Turn.{TakesUnit, MeetsFront}
use Rattle.stream_reader.specs.ReadStops.{ReadStop}
use Rattle.unit_reader.specs.declared.reader.Turn.{Turn}
use Rattle.unit_reader.specs.declared.reader.Turn.TheVariants as turns
use Rattle.unit_reader.specs.Reading.{ReaderSeen}
use Rattle.stream_rows.specs.declared.reason.Reason.{Reason}
use Rattle.stream_rows.specs.declared.reason.Reason.TheVariants as reasons
use Rattle.stream_rows.specs.Units.{Past, nothing_yet, DataUnit, End, after}
use Rattle.stream_rows.specs.Streams.{limit, past_limit}
use Rattle.unit_reader.specs.Stops.{LimitStops}
use Rattle.stream_cut.specs.Skim.{skim_grammar}
use Rattle.stream_reader.specs.Reader.{header_behind}
use Rattle.stream_cut.specs.SkimTable.{SkimTableSeen, kept_behind, first_shape, shape_behind, item_of}
use Rattle.stream_cut.specs.declared.table.SkimItem.{SkimItem}
use Rattle.stream_cut.specs.declared.table.SkimItem.TheVariants as items

-- What is seen of it: what the units so far leave, the header that was read last, the last header's or picture's unit and the
-- shape of the last picture, the bytes that it holds, the stop that it keeps, and whether the stream is over.
pub record SkimReaderSeen : Type 0 where
  pub past : Past
  pub header : Option HeaderParts
  pub unit : List ℕ
  pub shape : UnitShape
  pub held : List ℕ
  pub stop : Option ReadStop
  pub ended : Bool

-- a new reader
pub record IsNewSkimReader (r : SkimReaderSeen) : Type 0 where
  pub past : r.past ≡ nothing_yet
  pub header : r.header ≡ None
  pub unit : r.unit ≡ []
  pub shape : r.shape ≡ first_shape
  pub held : r.held ≡ []
  pub going : (r.stop ≡ None) × (r.ended ≡ false)

-- what is behind a unit of these bytes
pub record IsBehindUnit (old new : SkimReaderSeen) (unit : DataUnit) (bytes : List ℕ) : Type 0 where
  pub past : new.past ≡ after old.past unit bytes
  pub header : new.header ≡ header_behind unit old.header
  pub kept : new.unit ≡ kept_behind unit bytes old.unit
  pub shape : new.shape ≡ shape_behind old.past unit bytes old.shape

-- The unit in front was taken, an end of sequence where a byte follows it: the others are held, and the reader is behind it.
pub record TakesSkimItem (old new : SkimReaderSeen) (rest0 rest1 : Option (List ℕ)) (item : SkimItem) : Type 0 where
  pub unit : DataUnit
  pub bytes : List ℕ
  pub is_item : item ≡ item_of unit
  pub takes : TakesUnit limit past_limit skim_grammar old.past old.held rest0 rest1 unit bytes new.held
  pub behind : IsBehindUnit old new unit bytes
  pub going : (new.stop ≡ None) × (new.ended ≡ false)

-- The end of sequence in front was taken, and nothing is behind it.
pub record TakesSkimEnd (old new : SkimReaderSeen) (rest0 rest1 : Option (List ℕ)) : Type 0 where
  pub bytes : List ℕ
  pub meets : MeetsFront limit past_limit skim_grammar old.past old.held rest0 rest1 (Finishes (length bytes) End)
  pub whole : (more : List ℕ) → rest1 ≡ Some more → old.held ++ meets.read ++ more ≡ bytes
  pub last : IsAtEnd rest1
  pub behind : IsBehindUnit old new End bytes
  pub over : (new.held ≡ []) × (new.stop ≡ None) × (new.ended ≡ true)

-- A stop is kept; the units so far are as they were, and any bytes may be kept of the last unit.
pub record KeepsSkimStop (old new : SkimReaderSeen) (stop : ReadStop) : Type 0 where
  pub past : new.past ≡ old.past
  pub header : new.header ≡ old.header
  pub shape : new.shape ≡ old.shape
  pub kept : new.stop ≡ Some stop
  pub ended : new.ended ≡ false

-- By how the call came out, of a reader that keeps no stop and whose stream isn't over.
abbrev pub NextSkimmed : SkimReaderSeen → SkimReaderSeen → Option (List ℕ) → Option (List ℕ) → Result SkimItem ReadStop → Type 0
NextSkimmed old new rest0 rest1 (Ok items.End) = TakesSkimEnd old new rest0 rest1
NextSkimmed old new rest0 rest1 (Ok item) = TakesSkimItem old new rest0 rest1 item
NextSkimmed old new rest0 rest1 (Err stop) =
    LimitStops skim_grammar reasons.StreamTooLong old.past old.held rest0 rest1 stop × KeepsSkimStop old new stop

-- ---- over the reader of any table

-- what is seen of it, by the reader over its table
abbrev pub skim_seen : ReaderSeen SkimTableSeen Reason → SkimReaderSeen
skim_seen r = record {
  past = r.table.past;
  header = r.table.header;
  unit = r.table.unit;
  shape = r.table.shape;
  held = r.held;
  stop = r.stop;
  ended = r.ended;
}

-- what a turn tells; with the last unit and behind it, it is the end
abbrev pub answer_of : Result (Turn SkimItem) ReadStop → Result SkimItem ReadStop
answer_of (Ok (turns.Unit item)) = Ok item
answer_of (Ok (turns.Last item)) = Ok items.End
answer_of (Ok turns.Rest) = Ok items.End
answer_of (Err stop) = Err stop
