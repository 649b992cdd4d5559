-- How a unit by its head alone comes out.
use Rattle.std.proofs.Common.{◌≡◌, ℕ, ◌+◌, ◌*◌, true, false, List, ◌++◌, length, Option, None, Ok, Err, refl, ap, ◌∙◌, arith, append-nil}
use Rattle.std.proofs.lemmas.List.{length-append}
use Rattle.field_rows.specs.Rows.{done, ◌>>=◌, bytes_under}
use Rattle.parse_info.specs.declared.ParseInfo.{ParseInfo}
use Rattle.run_theory.specs.Begun.{Begun, Needs}
use Rattle.run_theory.proofs.Begins.{begun_more, begun_held, got_back}
use Rattle.run_theory.proofs.Fields.{needs_row, moves_blind, short_row}
use Rattle.stream_rows.specs.declared.reason.Reason.{Reason}
use Rattle.stream_rows.specs.declared.reason.Reason.TheVariants as reasons
use Rattle.unit_reader.specs.declared.window.Halt.{Halt}
use Rattle.unit_reader.specs.declared.stop.ReadStop.{ReadStop}
use Rattle.unit_reader.specs.declared.stop.ReadStop.TheVariants as stops
use Rattle.unit_reader.specs.Asking.{WindowSeen, Dropped}
use Rattle.unit_reader.specs.Stops.{limit, stop_of, ReadsRows, StopsOver}
use Rattle.unit_reader.proofs.Stopping.{stops_lost, stops_short}
use Rattle.stream_reader.specs.HeadUnits.{heads, head_only_head, head_only_payload, payload_length, head_only_unit}
use Rattle.stream_reader.specs.HeadLaws.{heads_laws}

pub head_only_begins : {place : ℕ} {held0 held1 : List ℕ} {rest0 rest1 : Option (List ℕ)} → Begun heads place held0 rest0 rest1 place held1 head_only_unit → Begun heads place held0 rest0 rest1 place held1 (head_only_head >>= head_only_payload)
unfolding head_only_unit
head_only_begins b = b

-- ---- the payload

payload_needs : (info : ParseInfo) → Needs heads (head_only_payload info) (payload_length info)
unfolding head_only_payload ◌>>=◌ bytes_under
payload_needs info = needs_row heads heads_laws (payload_length info) None _ _

pub payload_whole : {place : ℕ} {held0 : List ℕ} {rest0 rest1 : Option (List ℕ)} {old new : WindowSeen} (info : ParseInfo) (rest2 : Option (List ℕ)) → Dropped (payload_length info) old new rest1 rest2 (Ok true) → Begun heads place held0 rest0 rest1 (place + 13) old.held (head_only_payload info)
    → place + 13 + length old.held + old.room ≡ limit → ReadsRows heads place held0 rest0 rest2 new (λ unit bytes. unit ≡ info)
unfolding head_only_payload ◌>>=◌ bytes_under
payload_whole {place} {held0} {rest0} {rest1} {old} {new} info rest2 d b total = record {
  unit = info;
  at = place + 13 + length d.gone;
  begun = begun_more heads_laws (payload_length info) rest2 new.held d.gone (done info) b (payload_needs info) d.got (moves_blind heads (payload_length info) _ _ (place + 13) d.gone (done info) (d.enough refl) (λ v. refl) (λ v. refl));
  such = refl;
  total = omega (arith, d.room, total);
}

pub payload_short : {place : ℕ} {held0 : List ℕ} {rest0 rest1 : Option (List ℕ)} {old new : WindowSeen} (info : ParseInfo) (rest2 : Option (List ℕ)) (stop : ReadStop Reason) → Dropped (payload_length info) old new rest1 rest2 (Ok false) → Begun heads place held0 rest0 rest1 (place + 13) old.held (head_only_payload info)
    → place + 13 + length old.held + old.room ≡ limit → stop ≡ stops.Refused (record { place = place + 13; reason = reasons.Truncated }) → StopsOver heads place held0 rest0 rest2 new.room stop
unfolding head_only_payload ◌>>=◌ bytes_under
payload_short {place} {held0} {rest0} {rest1} {old} {new} info rest2 stop d b total e =
    let s = d.short refl in
    let all : d.gone ++ new.held ≡ d.gone = ap (λ l. d.gone ++ l) s.1 ∙ append-nil d.gone in
    stops_short heads_laws new.room (8 * (place + 13)) (place + 13) reasons.Truncated stop (begun_held heads_laws (payload_length info) rest2 (d.gone ++ new.held) b (payload_needs info) (got_back d.got))
    (short_row heads (payload_length info) _ _ (place + 13) (d.gone ++ new.held) (omega (arith, s.0, ap (λ (l : List ℕ). length l) all))) s.2 (omega (arith, d.room, total, length-append d.gone new.held)) (omega arith) e

pub payload_lost : {place : ℕ} {held0 : List ℕ} {rest0 rest1 : Option (List ℕ)} {old new : WindowSeen} (info : ParseInfo) (rest2 : Option (List ℕ)) (halt : Halt) (stop : ReadStop Reason) → Dropped (payload_length info) old new rest1 rest2 (Err halt) → Begun heads place held0 rest0 rest1 (place + 13) old.held (head_only_payload info)
    → place + 13 + length old.held + old.room ≡ limit → stop ≡ stop_of halt → StopsOver heads place held0 rest0 rest2 new.room stop
payload_lost {place} {held0} {rest0} {rest1} {old} {new} info rest2 halt stop d b total e =
    let s = d.err in
    let all : d.gone ++ new.held ≡ d.gone = ap (λ l. d.gone ++ l) s.1 ∙ append-nil d.gone in
    stops_lost heads_laws (payload_length info) new.room halt stop (begun_held heads_laws (payload_length info) rest2 (d.gone ++ new.held) b (payload_needs info) (got_back d.got)) (payload_needs info) (omega (arith, s.0, ap (λ (l : List ℕ). length l) all))
    (omega (arith, d.room, total, length-append d.gone new.held)) e
