-- What a call of the reader says, over the reader of its table.
use Rattle.std.specs.Prelude.{IfSome}
use Rattle.std.proofs.Common.{◌≡◌, ◌≤◌, ◌++◌, ℕ, true, false, List, length, Option, Some, None, Result, Ok, Err, refl, sym, subst}
use Rattle.run_theory.specs.Grammar.{Final}
use Rattle.run_theory.specs.Fronts.{Finishes}
use Rattle.run_theory.specs.Turn.{MeetsFront}
use Rattle.stream_reader.specs.ReadStops.{ReadStop}
use Rattle.unit_reader.specs.declared.reader.Turn.{Turn}
use Rattle.unit_reader.specs.declared.reader.Turn.TheVariants as turns
use Rattle.unit_reader.specs.Reading.{ReaderSeen, NextOver as TableNext}
use Rattle.unit_reader.proofs.FewHeld.{few_behind as table_few_behind}
use Rattle.stream_rows.specs.declared.reason.Reason.{Reason}
use Rattle.stream_rows.specs.declared.reason.Reason.TheVariants as reasons
use Rattle.stream_rows.specs.Units.{Past, DataUnit, Sequence, Repeated, Picture, Skipped, End, unit_behind}
use Rattle.stream_rows.specs.Streams.{limit, past_limit}
use Rattle.stream_cut.specs.Skim.{skim_grammar}
use Rattle.stream_cut.specs.declared.table.SkimItem.{SkimItem}
use Rattle.stream_cut.specs.SkimTable.{SkimTableSeen, TellsSkimUnit, KeepsSkimHeader, item_of}
use Rattle.stream_cut.specs.SkimReader.{SkimReaderSeen, TakesSkimItem, NextSkimmed, skim_seen, answer_of}

abbrev pub Seen : Type 0
Seen = ReaderSeen SkimTableSeen Reason

abbrev past_of : SkimTableSeen → Past
past_of table = table.past

abbrev stopped : SkimTableSeen → SkimTableSeen → List ℕ → Option (List ℕ) → List ℕ → ReadStop → Type 0
stopped before now held0 rest0 held stop = KeepsSkimHeader before now held

abbrev pub TurnOver : Seen → Seen → Option (List ℕ) → Option (List ℕ) → Result (Turn SkimItem) ReadStop → Type 0
TurnOver old new rest0 rest1 result = TableNext skim_grammar reasons.StreamTooLong past_of TellsSkimUnit stopped old new rest0 rest1 result

is_end : (unit : DataUnit) → unit_behind unit ≡ Final → unit ≡ End
is_end (Sequence parts) e = absurd cc
is_end Repeated e = absurd cc
is_end (Picture parts number params slices) e = absurd cc
is_end Skipped e = absurd cc
is_end End e = refl

-- an item of a unit isn't the end of the stream
by_unit : (old new : SkimReaderSeen) (rest0 rest1 : Option (List ℕ)) (unit : DataUnit) → TakesSkimItem old new rest0 rest1 (item_of unit) → NextSkimmed old new rest0 rest1 (Ok (item_of unit))
by_unit old new rest0 rest1 (Sequence parts) t = t
by_unit old new rest0 rest1 Repeated t = t
by_unit old new rest0 rest1 (Picture parts number params slices) t = t
by_unit old new rest0 rest1 Skipped t = t
by_unit old new rest0 rest1 End t = t

pub next_told : (old new : Seen) (rest0 rest1 : Option (List ℕ)) (result : Result (Turn SkimItem) ReadStop) → TurnOver old new rest0 rest1 result → NextSkimmed (skim_seen old) (skim_seen new) rest0 rest1 (answer_of result)
next_told old new rest0 rest1 (Ok (turns.Unit item)) n =
    subst (λ (i : SkimItem). NextSkimmed (skim_seen old) (skim_seen new) rest0 rest1 (Ok i)) (sym n.tells.is_item)
    (by_unit (skim_seen old) (skim_seen new) rest0 rest1 n.unit (record {
      unit = n.unit;
      bytes = n.bytes;
      is_item = refl;
      takes = n.takes;
      behind = record { past = n.past; header = n.tells.header; kept = n.tells.kept; shape = n.tells.shape };
      going = n.going;
    }))
next_told old new rest0 rest1 (Ok (turns.Last item)) n =
    let e = is_end n.unit n.final in
    let t = subst (λ (u : DataUnit). TellsSkimUnit old.table new.table u n.bytes item) e n.tells in
    let m = subst (λ (u : DataUnit). (m : MeetsFront limit past_limit skim_grammar old.table.past old.held rest0 rest1 (Finishes (length n.bytes) u)) × ((more : List ℕ) → rest1 ≡ Some more → old.held ++ m.read ++ more ≡ n.bytes)) e (n.meets, n.whole) in
    record {
      bytes = n.bytes;
      meets = m.0;
      whole = m.1;
      last = n.last;
      behind = record {
        past = subst (λ (u : DataUnit). new.table.past ≡ (skim_grammar).after old.table.past u n.bytes) e n.past;
        header = t.header;
        kept = t.kept;
        shape = t.shape;
      };
      over = (n.none, n.over.0, n.over.1);
    }
next_told old new rest0 rest1 (Ok turns.Rest) n = absurd (let clash : false ≡ true = n.rests.may in cc)
next_told old new rest0 rest1 (Err stop) n = (n.0, record { past = n.1; header = n.2.header; shape = n.2.shape; kept = n.3; ended = n.4 })

-- behind a call few bytes are held
pub few_behind : (old new : Seen) (rest0 rest1 : Option (List ℕ)) (before now : ℕ) (result : Result (Turn SkimItem) ReadStop) → length old.held ≤ 8192 → (old.stop ≡ None → old.ended ≡ false → TurnOver old new rest0 rest1 result) → (new.stop ≡ None → length new.held ≤ 4096)
    → IfSome old.stop (λ stop. (result ≡ Err stop) × (new ≡ old) × (rest1 ≡ rest0) × (now ≡ before))
    → (old.stop ≡ None → old.ended ≡ true → (result ≡ Ok turns.Rest) × (new ≡ old) × (rest1 ≡ rest0) × (now ≡ before)) → length new.held ≤ 8192
few_behind old new = table_few_behind skim_grammar reasons.StreamTooLong past_of TellsSkimUnit stopped (λ before now held0 rest0 held stop h. h.few) old new
