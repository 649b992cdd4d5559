-- The reader of units by their heads alone, over any source.
use Rattle.std.specs.Prelude.{◌≡◌, ℕ, ◌+◌, Bool, true, false, List, [], length, Option, Some, None, Result, Ok, Err}
use Rattle.parse_info.specs.declared.ParseInfo.{ParseInfo}
use Rattle.run_theory.specs.Turn.{TakesUnit, RestsHere}
use Rattle.stream_reader.specs.ReadStops.{ReadStop}
use Rattle.stream_reader.specs.declared.head_units.HeadTable.{HeadTable}
use Rattle.unit_reader.specs.declared.reader.Turn.{Turn}
use Rattle.unit_reader.specs.declared.reader.Turn.TheVariants as turns
use Rattle.unit_reader.specs.Reading.{ReaderSeen}
use Rattle.stream_rows.specs.declared.reason.Reason.{Reason}
use Rattle.stream_rows.specs.declared.reason.Reason.TheVariants as reasons
use Rattle.stream_rows.specs.Streams.{limit, past_limit}
use Rattle.unit_reader.specs.Stops.{LimitStops}
use Rattle.stream_reader.specs.HeadUnits.{heads}

-- What is seen of it: the place of the next unit, the bytes that it holds, the stop that it keeps, and whether the input is over.
pub record HeadReaderSeen : Type 0 where
  pub place : ℕ
  pub held : List ℕ
  pub stop : Option ReadStop
  pub ended : Bool

-- nothing is read so far
abbrev pub new_head_reader : HeadReaderSeen
new_head_reader = record { place = 0; held = []; stop = None; ended = false }

-- The unit in front was taken: the bytes behind it are held, and the reader is behind it.
pub record TakesHead (old new : HeadReaderSeen) (rest0 rest1 : Option (List ℕ)) (info : ParseInfo) : Type 0 where
  pub bytes : List ℕ
  pub takes : TakesUnit limit past_limit heads old.place old.held rest0 rest1 info bytes new.held
  pub place : new.place ≡ old.place + length bytes
  pub going : (new.stop ≡ None) × (new.ended ≡ false)

-- The input is over before a unit.
pub record HeadsRestOver (old new : HeadReaderSeen) (rest0 rest1 : Option (List ℕ)) : Type 0 where
  pub rests : RestsHere heads old.place old.held rest0 rest1
  pub over : (new.held ≡ []) × (new.place ≡ old.place) × (new.stop ≡ None) × (new.ended ≡ true)

-- By how the call came out, of a reader that keeps no stop and whose input isn't over.
abbrev pub NextHeadOver : HeadReaderSeen → HeadReaderSeen → Option (List ℕ) → Option (List ℕ)
    → Result (Option ParseInfo) ReadStop → Type 0
NextHeadOver old new rest0 rest1 (Ok (Some info)) = TakesHead old new rest0 rest1 info
NextHeadOver old new rest0 rest1 (Ok None) = HeadsRestOver old new rest0 rest1
NextHeadOver old new rest0 rest1 (Err stop) =
    LimitStops heads reasons.StreamTooLong old.place old.held rest0 rest1 stop
    × (new.place ≡ old.place) × (new.stop ≡ Some stop) × (new.ended ≡ false)

-- ---- over the reader of any table

-- what is seen of it, by the reader over its table
abbrev pub heads_seen : ReaderSeen HeadTable Reason → HeadReaderSeen
heads_seen r = record { place = r.table.place; held = r.held; stop = r.stop; ended = r.ended }

-- what a turn tells; no unit is the last one
abbrev pub answer_of : Result (Turn ParseInfo) ReadStop → Result (Option ParseInfo) ReadStop
answer_of (Ok (turns.Unit info)) = Ok (Some info)
answer_of (Ok (turns.Last info)) = Ok (Some info)
answer_of (Ok turns.Rest) = Ok None
answer_of (Err stop) = Err stop
