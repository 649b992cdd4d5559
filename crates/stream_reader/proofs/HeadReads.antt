-- What a call of the reader over the table of heads says, as the reader of heads tells it.
use Rattle.std.proofs.Common.{◌≡◌, ◌≤◌, ℕ, List, length, true, false, Option, Some, None, Result, Ok, Err, sym, ap, subst, ◌∙◌}
use Rattle.std.specs.Prelude.{IfSome}
use Rattle.parse_info.specs.declared.ParseInfo.{ParseInfo}
use Rattle.run_theory.specs.Grammar.{Inner, Final}
use Rattle.run_theory.specs.Turn.{TakesUnit}
use Rattle.stream_rows.specs.declared.reason.Reason.{Reason}
use Rattle.stream_rows.specs.declared.reason.Reason.TheVariants as reasons
use Rattle.stream_rows.specs.Streams.{limit, past_limit}
use Rattle.unit_reader.specs.declared.reader.Turn.{Turn}
use Rattle.unit_reader.specs.declared.reader.Turn.TheVariants as turns
use Rattle.unit_reader.specs.Stops.{StopCause}
use Rattle.unit_reader.specs.Reading.{ReaderSeen, NextOver}
use Rattle.unit_reader.proofs.FewHeld.{few_behind as table_few_behind}
use Rattle.stream_reader.specs.ReadStops.{ReadStop}
use Rattle.stream_reader.specs.declared.head_units.HeadTable.{HeadTable}
use Rattle.stream_reader.specs.HeadUnits.{heads}
use Rattle.stream_reader.specs.HeadReader.{NextHeadOver, heads_seen, answer_of}

-- few bytes are held where the unit of a head stops
abbrev HeadStopped : HeadTable → HeadTable → List ℕ → Option (List ℕ) → List ℕ → ReadStop → Type 0
HeadStopped before now held0 rest0 held stop = length held ≤ 8192

pub next_told : (old new : ReaderSeen HeadTable Reason) (rest0 rest1 : Option (List ℕ)) (result : Result (Turn ParseInfo) ReadStop)
    → NextOver heads reasons.StreamTooLong (λ (table : HeadTable). table.place) (λ (before behind : HeadTable) (unit : ParseInfo) (bytes : List ℕ) (item : ParseInfo). item ≡ unit) HeadStopped old new rest0 rest1 result → NextHeadOver (heads_seen old) (heads_seen new) rest0 rest1 (answer_of result)
next_told old new rest0 rest1 (Ok (turns.Unit item)) n = record {
  bytes = n.bytes;
  takes = subst (λ (info : ParseInfo). TakesUnit limit past_limit heads old.table.place old.held rest0 rest1 info n.bytes new.held) (sym n.tells) n.takes;
  place = n.past;
  going = n.going;
}
next_told old new rest0 rest1 (Ok (turns.Last item)) n = absurd (let clash : Inner ≡ Final = n.final in cc)
next_told old new rest0 rest1 (Ok turns.Rest) n = record { rests = n.rests; over = (n.none, n.past, n.over.0, n.over.1) }
next_told old new rest0 rest1 (Err stop) n = (n.0, n.1, n.3, n.4)

pub cause_told : (before now : ℕ) (result : Result (Turn ParseInfo) ReadStop) → StopCause before now result → StopCause before now (answer_of result)
cause_told before now (Ok (turns.Unit item)) h = h
cause_told before now (Ok (turns.Last item)) h = h
cause_told before now (Ok turns.Rest) h = h
cause_told before now (Err stop) h = h

-- nothing was read, and the stop is answered again
pub kept_told : (old new : ReaderSeen HeadTable Reason) (rest0 rest1 : Option (List ℕ)) (before now : ℕ) (result : Result (Turn ParseInfo) ReadStop) (answer : Result (Option ParseInfo) ReadStop) (stop : Option ReadStop) → answer ≡ answer_of result
    → IfSome stop (λ stop. (result ≡ Err stop) × (new ≡ old) × (rest1 ≡ rest0) × (now ≡ before)) → IfSome stop (λ stop. (answer ≡ Err stop) × (heads_seen new ≡ heads_seen old) × (rest1 ≡ rest0) × (now ≡ before))
kept_told old new rest0 rest1 before now result answer None e h = tt
kept_told old new rest0 rest1 before now result answer (Some stop) e h = (e ∙ ap answer_of h.0, ap heads_seen h.1, h.2, h.3)

-- behind a call few bytes are held
pub few_behind : (old new : ReaderSeen HeadTable Reason) (rest0 rest1 : Option (List ℕ)) (before now : ℕ) (result : Result (Turn ParseInfo) ReadStop) → length old.held ≤ 8192
    → (old.stop ≡ None → old.ended ≡ false → NextOver heads reasons.StreamTooLong (λ (table : HeadTable). table.place) (λ (before behind : HeadTable) (unit : ParseInfo) (bytes : List ℕ) (item : ParseInfo). item ≡ unit) HeadStopped old new rest0 rest1 result)
    → (new.stop ≡ None → length new.held ≤ 4096)
    → IfSome old.stop (λ stop. (result ≡ Err stop) × (new ≡ old) × (rest1 ≡ rest0) × (now ≡ before))
    → (old.stop ≡ None → old.ended ≡ true → (result ≡ Ok turns.Rest) × (new ≡ old) × (rest1 ≡ rest0) × (now ≡ before)) → length new.held ≤ 8192
few_behind old new = table_few_behind heads reasons.StreamTooLong (λ (table : HeadTable). table.place) (λ (before behind : HeadTable) (unit : ParseInfo) (bytes : List ℕ) (item : ParseInfo). item ≡ unit) HeadStopped (λ before now held0 rest0 held stop h. h) old new
