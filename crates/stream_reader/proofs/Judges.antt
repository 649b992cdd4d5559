-- How a judge comes to its verdict.
use Rattle.std.proofs.Common.{◌≡◌, ℕ, ◌^◌, ◌<◌, ◌≤◌, true, false, List, [], Option, None, Some, Result, Ok, Err, IfOk, inl, inr, refl, sym, ap, subst, ◌∙◌, arith}
use Rattle.std.specs.List.{AllByRecursion}
use Rattle.vc2_io.proofs.Known.{Appends-none}
use Rattle.run_theory.specs.Walk.{Machine, answer_to}
use Rattle.run_theory.specs.Ran.{Ran}
use Rattle.run_theory.specs.Window.{Holds}
use Rattle.run_theory.proofs.Windows.{holds_opened}
use Rattle.run_theory.specs.Fronts.{Between, Command}
use Rattle.run_theory.proofs.FrontLaws.{machine_laws}
use Rattle.run_theory.proofs.Turning.{turned_more, turned_ended}
use Rattle.stream_reader.specs.declared.stop.Item.{Item}
use Rattle.stream_reader.specs.declared.stop.Item.TheVariants as items
use Rattle.stream_reader.specs.ReadStops.{ReadStop}
use Rattle.unit_reader.specs.declared.stop.ReadStop.TheVariants as stops
use Rattle.stream_rows.specs.declared.reason.Reason.{Reason}
use Rattle.stream_rows.specs.declared.reason.Reason.TheVariants as reasons
use Rattle.stream_reader.specs.declared.judging.Verdict.{Verdict}
use Rattle.stream_reader.specs.declared.judging.Verdict.TheVariants as verdicts
use Rattle.stream_rows.specs.Units.{Past, DataUnit, nothing_yet, unit_rows, units}
use Rattle.stream_rows.specs.Streams.{limit, past_limit, refusal_of, HasOneAnswer}
use Rattle.unit_reader.specs.Stops.{LimitStops}
use Rattle.stream_reader.specs.Reader.{StreamReaderSeen, new_reader, is_end_item, TakesStreamItem, TakesEnd, NextItemOver}
use Rattle.stream_reader.specs.Judging.{IsVerdict, IsStopVerdict}
use Rattle.stream_rows.proofs.UnitsLaws.{units_laws}
use Rattle.stream_rows.proofs.Tables.{stream_table}
use Rattle.stream_rows.proofs.OneAnswer.{one_answer}
use Rattle.stream_rows.proofs.Answering.{machine, IsPlain, answer_stream, answer_refusal, after-place}

-- a judge goes through the units and writes nothing
abbrev pub judging : Command Past Reason DataUnit Unit Verdict
judging = record {
  opening = [];
  start = tt;
  next = λ z own unit bytes. tt;
  text = λ z own unit bytes. [];
  finished = λ z own unit bytes. record { ending = verdicts.Stream; last = [] };
  rested = λ z own. record { ending = verdicts.Stream; last = [] };
  refused = λ z own fault. record { ending = verdicts.Refused (refusal_of fault); last = [] };
  endless = verdicts.Stream;
}

abbrev pub judge_machine : Machine (Between Past Unit) Verdict
judge_machine = machine judging

judge_plain : IsPlain judging
judge_plain = record { text = λ own unit. []; is_text = λ z own unit bytes. refl; step = λ own unit. tt; is_step = λ z own unit bytes. refl }

abbrev at_past : Past → Between Past Unit
at_past z = record { past = z; own = tt }

-- the reader goes on behind the units so far
pub record GoesOn (rest0 rest1 : Option (List ℕ)) (r : StreamReaderSeen) : Type 0 where
  pub holds : Holds judge_machine rest0 rest1 None None r.held (at_past r.past)
  pub no_stop : r.stop ≡ None
  pub no_end : r.ended ≡ false

pub goes_first : (rest : Option (List ℕ)) (r : StreamReaderSeen) → r ≡ new_reader → GoesOn rest rest r
goes_first rest r new =
    subst (GoesOn rest rest) (sym new) (record { holds = holds_opened (machine_laws limit past_limit units nothing_yet judging units_laws) rest None None (Appends-none None None refl); no_stop = refl; no_end = refl })

pub ends_by : (old new : StreamReaderSeen) (rest0 rest1 : Option (List ℕ)) (item : Item) → NextItemOver old new rest0 rest1 (Ok item) → is_end_item item ≡ true → TakesEnd old new rest0 rest1
ends_by old new rest0 rest1 items.Sequence n e = absurd cc
ends_by old new rest0 rest1 items.Repeated n e = absurd cc
ends_by old new rest0 rest1 (items.Picture number) n e = absurd cc
ends_by old new rest0 rest1 items.Skipped n e = absurd cc
ends_by old new rest0 rest1 items.SequenceEnd n e = absurd cc
ends_by old new rest0 rest1 items.End n e = n

pub takes_by : (old new : StreamReaderSeen) (rest0 rest1 : Option (List ℕ)) (item : Item) → NextItemOver old new rest0 rest1 (Ok item) → is_end_item item ≡ false → TakesStreamItem old new rest0 rest1 item
takes_by old new rest0 rest1 items.Sequence n e = n
takes_by old new rest0 rest1 items.Repeated n e = n
takes_by old new rest0 rest1 (items.Picture number) n e = n
takes_by old new rest0 rest1 items.Skipped n e = n
takes_by old new rest0 rest1 items.SequenceEnd n e = n
takes_by old new rest0 rest1 items.End n e = absurd cc

pub goes_more : (rest0 rest1 rest2 : Option (List ℕ)) (old new : StreamReaderSeen) (item : Item) → GoesOn rest0 rest1 old → TakesStreamItem old new rest1 rest2 item → GoesOn rest0 rest2 new
goes_more rest0 rest1 rest2 old new item b n = record {
  holds = subst (λ (z : Past). Holds judge_machine rest0 rest2 None None new.held (at_past z)) (sym n.past) (turned_more nothing_yet judging units_laws rest0 None None None b.holds n.takes (Appends-none None None refl));
  no_stop = n.going.0;
  no_end = n.going.1;
}

pub place_more : (rest1 rest2 : Option (List ℕ)) (old new : StreamReaderSeen) (item : Item) → TakesStreamItem old new rest1 rest2 item → (old.past.place < new.past.place) × (new.past.place ≤ 2 ^ 40)
place_more rest1 rest2 old new item n =
    let t = n.takes in
    let place = ap (λ (z : Past). z.place) n.past ∙ after-place old.past n.unit n.bytes in
    (omega (arith, place, t.some), omega (arith, place, t.inside))

-- the verdict of a run over bytes that are told
verdict_of : (bytes left : List ℕ) (verdict : Verdict) → Ran judge_machine (Some bytes) (Some left) None None (Ok verdict) → (answer_to judge_machine bytes).ending ≡ verdict
verdict_of bytes left verdict r = ap (λ l. (answer_to judge_machine l).ending) r.1 ∙ (r.2.2 left refl).1

-- it is that of the definitions
pub is_verdict : (bytes : List ℕ) (verdict : Verdict) → AllByRecursion (λ b. b < 256) bytes → (answer_to judge_machine bytes).ending ≡ verdict → IsVerdict bytes verdict
is_verdict bytes verdict fits e = by (one_answer unit_rows stream_table bytes)
  where
    by : HasOneAnswer bytes → IsVerdict bytes verdict
    by (inl s) =
        let same : verdicts.Stream ≡ verdict = sym (ap (λ a. a.ending) (answer_stream unit_rows stream_table judging judge_plain bytes s.0 s.1 fits s.2).2) ∙ e in
        subst (IsVerdict bytes) same (s.0, s.1, s.2)
    by (inr r) =
        let same : verdicts.Refused r.0 ≡ verdict = sym (ap (λ a. a.ending) (answer_refusal unit_rows stream_table judging judge_plain bytes r.0 fits r.1).1 ∙ ap (λ x. verdicts.Refused x) (sym r.1.there)) ∙ e in
        subst (IsVerdict bytes) same r.1

pub judged_stream : (bytes left : List ℕ) (rest1 : Option (List ℕ)) (old new : StreamReaderSeen) → AllByRecursion (λ b. b < 256) bytes → GoesOn (Some bytes) rest1 old → TakesEnd old new rest1 (Some left) → IsVerdict bytes verdicts.Stream
judged_stream bytes left rest1 old new fits b n =
    is_verdict bytes verdicts.Stream fits (verdict_of bytes left verdicts.Stream (turned_ended nothing_yet judging units_laws (Some bytes) None None None (record { ending = verdicts.Stream; last = [] }) b.holds n.meets (λ more told. refl) (Appends-none None None refl)))

pub judged_stop : (bytes left : List ℕ) (rest1 : Option (List ℕ)) (old : StreamReaderSeen) (stop : ReadStop) (verdict : Verdict) → AllByRecursion (λ b. b < 256) bytes → GoesOn (Some bytes) rest1 old → LimitStops units reasons.StreamTooLong old.past old.held rest1 (Some left) stop → IsStopVerdict stop verdict → IsVerdict bytes verdict
judged_stop bytes left rest1 old (stops.Refused refusal) verdict fits b n e =
    let told : verdicts.Refused (refusal_of n.fault) ≡ verdict = ap (λ x. verdicts.Refused x) (sym n.there) ∙ sym e in
    subst (IsVerdict bytes) told
    (is_verdict bytes (verdicts.Refused (refusal_of n.fault)) fits
    (verdict_of bytes left (verdicts.Refused (refusal_of n.fault)) (turned_ended nothing_yet judging units_laws (Some bytes) None None None (record { ending = verdicts.Refused (refusal_of n.fault); last = [] }) b.holds n.meets (λ more told. refl) (Appends-none None None refl))))
judged_stop bytes left rest1 old stops.ReadFault verdict fits b n e = absurd e
judged_stop bytes left rest1 old stops.NoMemory verdict fits b n e = absurd e

-- a verdict by another word
pub told : {X E : Type 0} {P Q : X → Type 0} (result : Result X E) → ((x : X) → P x → Q x) → IfOk result P → IfOk result Q
told (Ok x) f h = f x h
told (Err e) f h = h
