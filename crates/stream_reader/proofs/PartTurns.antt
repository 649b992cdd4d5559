-- How the parts of units come out: the end, a payload that is skipped, and a repeated sequence header.
use Rattle.std.proofs.Common.{◌≡◌, ℕ, ◌+◌, ◌-◌, ◌*◌, ◌^◌, ◌<◌, ◌≤◌, true, false, List, [], ◌∷◌, ◌++◌, length, take, drop, get_or, Option, None, Ok, Err, refl, sym, ap, subst, ◌∙◌, arith, append-nil}
use Rattle.std.specs.Prelude.{nat_eq}
use Rattle.std.specs.List.{starts_with}
use Rattle.std.proofs.lemmas.List.{length-append, length-take, take-append-drop}
use Rattle.std.specs.Io.KnownBytes.{IsAtEnd}
use Rattle.field_rows.specs.Rows.{done, read, ◌>>=◌, bytes_under, first_broken, reading_unless, ◌or_else◌}
use Rattle.field_rows.proofs.Reading.{read-done}
use Rattle.run_theory.specs.Ran.{within}
use Rattle.run_theory.specs.Grammar.{bytes_at}
use Rattle.run_theory.specs.Begun.{Begun, Needs, Moves, Got}
use Rattle.run_theory.proofs.Begins.{begun_more, begun_held, begun_use, begun_use-gone, got_back}
use Rattle.run_theory.proofs.Fields.{needs_row, moves_row, moves_blind, short_row, broken_row, all_fit}
use Rattle.unit_reader.specs.declared.window.Halt.{Halt}
use Rattle.stream_rows.specs.declared.reason.Reason.TheVariants as reasons
use Rattle.unit_reader.specs.declared.stop.ReadStop.{ReadStop}
use Rattle.unit_reader.specs.declared.stop.ReadStop.TheVariants as stops
use Rattle.unit_reader.specs.Asking.{WindowSeen, Dropped}
use Rattle.stream_rows.specs.Units.{Past, First, DataUnit, Repeated, Skipped, reason_of, next_checked, repeated_payload, skipped_payload, units, leads_behind}
use Rattle.stream_rows.specs.Streams.{limit}
use Rattle.stream_reader.specs.Turns.{Takes}
use Rattle.unit_reader.specs.Stops.{stop_of, StopsOver}
use Rattle.stream_rows.proofs.UnitsLaws.{units_laws}
use Rattle.stream_rows.proofs.CheckedRows.{read-checked_unit}
use Rattle.stream_rows.specs.declared.reason.Reason.{Reason}
use Rattle.unit_reader.proofs.Stopping.{stops_lost, stops_short, stops_refused}

-- ---- a unit that was read

pub takes : {z : Past} {held0 held1 : List ℕ} {rest0 rest1 : Option (List ℕ)} {at : ℕ} (room : ℕ) (IsSuch : DataUnit → List ℕ → Type 0) (unit : DataUnit) → Begun units z held0 rest0 rest1 at held1 (done unit) → at + length held1 + room ≡ limit → at < z.place + 2 ^ 32
    → ((bytes : List ℕ) → at ≡ z.place + length bytes → IsSuch unit bytes) → Takes z held0 rest0 rest1 room held1 IsSuch
takes {at = at} room IsSuch unit b total short such = record { unit = unit; at = at; begun = b; such = (such b.gone b.partway.at_is, omega (arith, short, b.partway.at_is)); total = total }

-- the same, of the bytes that are gone
pub takes_gone : {z : Past} {held0 held1 : List ℕ} {rest0 rest1 : Option (List ℕ)} {at : ℕ} (room : ℕ) (IsSuch : DataUnit → List ℕ → Type 0) (unit : DataUnit) (b : Begun units z held0 rest0 rest1 at held1 (done unit)) → at + length held1 + room ≡ limit → at < z.place + 2 ^ 32
    → IsSuch unit b.gone → Takes z held0 rest0 rest1 room held1 IsSuch
takes_gone {at = at} room IsSuch unit b total short such = record { unit = unit; at = at; begun = b; such = (such, omega (arith, short, b.partway.at_is)); total = total }

-- ---- a payload that is skipped

skipped_needs : (next : ℕ) → Needs units (skipped_payload next) (next - 13)
unfolding skipped_payload ◌>>=◌ bytes_under
skipped_needs next = needs_row units units_laws (next - 13) None _ _

pub skipped_whole : {z : Past} {held0 : List ℕ} {rest0 rest1 : Option (List ℕ)} {place : ℕ} {old new : WindowSeen} (next : ℕ) (rest2 : Option (List ℕ)) (d : Dropped (next - 13) old new rest1 rest2 (Ok true)) → Begun units z held0 rest0 rest1 place old.held (skipped_payload next) → place ≡ z.place + 13 → next < 2 ^ 32
    → place + length old.held + old.room ≡ limit → Takes z held0 rest0 rest2 new.room new.held (λ unit bytes. unit ≡ Skipped)
unfolding skipped_payload ◌>>=◌ bytes_under
skipped_whole {z} {held0} {rest0} {rest1} {place} {old} {new} next rest2 d b behind few total =
    let long = d.enough refl in
    takes new.room (λ unit bytes. unit ≡ Skipped) Skipped
    (begun_more units_laws (next - 13) rest2 new.held d.gone (done Skipped) b (skipped_needs next) d.got (moves_blind units (next - 13) _ _ place d.gone (done Skipped) long (λ v. refl) (λ v. refl)))
    (omega (arith, d.room, total)) (omega (arith, behind, long, few)) (λ bytes at. refl)

pub skipped_short : {z : Past} {held0 : List ℕ} {rest0 rest1 : Option (List ℕ)} {place : ℕ} {old new : WindowSeen} (next : ℕ) (rest2 : Option (List ℕ)) (stop : ReadStop Reason) (d : Dropped (next - 13) old new rest1 rest2 (Ok false)) → Begun units z held0 rest0 rest1 place old.held (skipped_payload next)
    → place + length old.held + old.room ≡ limit → stop ≡ stops.Refused (record { place = place; reason = reasons.Truncated }) → StopsOver units z held0 rest0 rest2 new.room stop
unfolding skipped_payload ◌>>=◌ bytes_under
skipped_short {z} {held0} {rest0} {rest1} {place} {old} {new} next rest2 stop d b total e =
    let s = d.short refl in
    let all : d.gone ++ new.held ≡ d.gone = ap (λ l. d.gone ++ l) s.1 ∙ append-nil d.gone in
    stops_short units_laws new.room (8 * place) place reasons.Truncated stop (begun_held units_laws (next - 13) rest2 (d.gone ++ new.held) b (skipped_needs next) (got_back d.got))
    (short_row units (next - 13) _ _ place (d.gone ++ new.held) (omega (arith, s.0, ap (λ (l : List ℕ). length l) all))) s.2 (omega (arith, d.room, total, length-append d.gone new.held)) (omega arith) e

pub skipped_lost : {z : Past} {held0 : List ℕ} {rest0 rest1 : Option (List ℕ)} {place : ℕ} {old new : WindowSeen} (next : ℕ) (rest2 : Option (List ℕ)) (halt : Halt) (stop : ReadStop Reason) (d : Dropped (next - 13) old new rest1 rest2 (Err halt)) → Begun units z held0 rest0 rest1 place old.held (skipped_payload next)
    → place + length old.held + old.room ≡ limit → stop ≡ stop_of halt → StopsOver units z held0 rest0 rest2 new.room stop
skipped_lost {z} {held0} {rest0} {rest1} {place} {old} {new} next rest2 halt stop d b total e =
    let s = d.err in
    let all : d.gone ++ new.held ≡ d.gone = ap (λ l. d.gone ++ l) s.1 ∙ append-nil d.gone in
    stops_lost units_laws (next - 13) new.room halt stop (begun_held units_laws (next - 13) rest2 (d.gone ++ new.held) b (skipped_needs next) (got_back d.got)) (skipped_needs next) (omega (arith, s.0, ap (λ (l : List ℕ). length l) all))
    (omega (arith, d.room, total, length-append d.gone new.held)) e

-- ---- the check of the next offset, behind the n bytes of a unit

checked_moves : (z : Past) (next n : ℕ) (unit : DataUnit) → leads_behind next n ≡ true → Moves units (next_checked z next >>= λ length. done unit) (z.place + n) [] (done unit)
checked_moves z next n unit leads = record {
  moves = λ more.
      read-checked_unit z next n unit more
      ∙ ap (λ b. reading_unless (8 * (z.place + 5)) (first_broken ((b or_else reasons.OffsetWrong) ∷ [])) (Ok (unit, bytes_at (z.place + n) more))) leads
      ∙ sym (read-done reason_of unit (bytes_at (z.place + n) more)) ∙ ap (λ p. read reason_of (done unit) (bytes_at p more)) (omega arith);
}

pub checked_takes : {z : Past} {held0 held1 : List ℕ} {rest0 rest1 : Option (List ℕ)} (room next n : ℕ) (IsSuch : DataUnit → List ℕ → Type 0) (unit : DataUnit) → Begun units z held0 rest0 rest1 (z.place + n) held1 (next_checked z next >>= λ length. done unit) → leads_behind next n ≡ true
    → z.place + n + length held1 + room ≡ limit → n < 2 ^ 32 → ((bytes : List ℕ) → n ≡ length bytes → IsSuch unit bytes) → Takes z held0 rest0 rest1 room held1 IsSuch
checked_takes {z} {held0} {held1} {rest0} {rest1} room next n IsSuch unit b leads total short such =
    takes room IsSuch unit
    (begun_use units_laws [] held1 (done unit) b refl (checked_moves z next n unit leads))
    (omega (arith, total)) (omega (arith, short)) (λ bytes at. such bytes (omega (arith, at)))

-- the same, of the bytes that are gone
pub checked_takes_gone : {z : Past} {held0 held1 : List ℕ} {rest0 rest1 : Option (List ℕ)} (room next n : ℕ) (IsSuch : DataUnit → List ℕ → Type 0) (unit : DataUnit) (b : Begun units z held0 rest0 rest1 (z.place + n) held1 (next_checked z next >>= λ length. done unit)) → leads_behind next n ≡ true
    → z.place + n + length held1 + room ≡ limit → n < 2 ^ 32 → IsSuch unit b.gone → Takes z held0 rest0 rest1 room held1 IsSuch
checked_takes_gone {z} {held0} {held1} {rest0} {rest1} room next n IsSuch unit b leads total short such =
    takes_gone room IsSuch unit
    (begun_use units_laws [] held1 (done unit) b refl (checked_moves z next n unit leads))
    (omega (arith, total)) (omega (arith, short)) (subst (IsSuch unit) (sym (begun_use-gone units_laws [] held1 (done unit) b refl (checked_moves z next n unit leads) ∙ append-nil b.gone)) such)

pub checked_refused : {z : Past} {held0 held1 : List ℕ} {rest0 rest1 : Option (List ℕ)} (room next n : ℕ) (unit : DataUnit) (stop : ReadStop Reason) → Begun units z held0 rest0 rest1 (z.place + n) held1 (next_checked z next >>= λ length. done unit) → leads_behind next n ≡ false
    → z.place + n + length held1 + room ≡ limit → stop ≡ stops.Refused (record { place = z.place + 5; reason = reasons.OffsetWrong }) → StopsOver units z held0 rest0 rest1 room stop
checked_refused {z} {held0} {held1} {rest0} {rest1} room next n unit stop b leads total e =
    stops_refused units_laws room (8 * (z.place + 5)) (z.place + 5) reasons.OffsetWrong stop b
    (read-checked_unit z next n unit held1 ∙ ap (λ b. reading_unless (8 * (z.place + 5)) (first_broken ((b or_else reasons.OffsetWrong) ∷ [])) (Ok (unit, bytes_at (z.place + n) held1))) leads)
    refl total (omega arith) e

-- ---- a repeated sequence header

repeated_needs : (z : Past) (next : ℕ) (first : First) → Needs units (repeated_payload z next first) (length first.payload)
unfolding repeated_payload ◌>>=◌ bytes_under
repeated_needs z next first = needs_row units units_laws (length first.payload) None _ _

pub repeated_short : {z : Past} {held0 held1 : List ℕ} {rest0 rest1 : Option (List ℕ)} {place : ℕ} (next : ℕ) (first : First) (held2 : List ℕ) (rest2 : Option (List ℕ)) (room : ℕ) (stop : ReadStop Reason) → Begun units z held0 rest0 rest1 place held1 (repeated_payload z next first)
    → Got (length first.payload) held1 held2 rest1 rest2 [] → length held2 < length first.payload → IsAtEnd (within room rest2) → place + length held2 + room ≡ limit → stop ≡ stops.Refused (record { place = place; reason = reasons.Truncated }) → StopsOver units z held0 rest0 rest2 room stop
unfolding repeated_payload ◌>>=◌ bytes_under
repeated_short {z} {place = place} next first held2 rest2 room stop b got few at_end total e =
    stops_short units_laws room (8 * place) place reasons.Truncated stop (begun_held units_laws (length first.payload) rest2 held2 b (repeated_needs z next first) got)
    (short_row units (length first.payload) _ _ place held2 few) at_end total (omega arith) e

pub repeated_lost : {z : Past} {held0 held1 : List ℕ} {rest0 rest1 : Option (List ℕ)} {place : ℕ} (next : ℕ) (first : First) (held2 : List ℕ) (rest2 : Option (List ℕ)) (room : ℕ) (halt : Halt) (stop : ReadStop Reason) → Begun units z held0 rest0 rest1 place held1 (repeated_payload z next first)
    → Got (length first.payload) held1 held2 rest1 rest2 [] → length held2 < length first.payload → place + length held2 + room ≡ limit → stop ≡ stop_of halt → StopsOver units z held0 rest0 rest2 room stop
repeated_lost {z} next first held2 rest2 room halt stop b got few total e =
    stops_lost units_laws (length first.payload) room halt stop (begun_held units_laws (length first.payload) rest2 held2 b (repeated_needs z next first) got) (repeated_needs z next first) few total e

pub repeated_differs : {z : Past} {held0 held1 : List ℕ} {rest0 rest1 : Option (List ℕ)} {place : ℕ} (next : ℕ) (first : First) (held2 piece : List ℕ) (rest2 : Option (List ℕ)) (room : ℕ) (stop : ReadStop Reason) → Begun units z held0 rest0 rest1 place held1 (repeated_payload z next first)
    → Got (length first.payload) held1 held2 rest1 rest2 [] → length first.payload ≤ length held2 → piece ≡ take (length first.payload) held2 → ((i : ℕ) → get_or piece i 0 < 256) → starts_with nat_eq piece first.payload ≡ false
    → place + length held2 + room ≡ limit → stop ≡ stops.Refused (record { place = place; reason = reasons.HeaderDiffers }) → StopsOver units z held0 rest0 rest2 room stop
unfolding repeated_payload ◌>>=◌ bytes_under
repeated_differs {z} {held0} {held1} {rest0} {rest1} {place} next first held2 piece rest2 room stop b got many is fits differs total e =
    let n = length first.payload in
    let long : length piece ≡ n = omega (arith, ap (λ (l : List ℕ). length l) is, length-take n held2, many) in
    stops_refused units_laws room (8 * place) place reasons.HeaderDiffers stop (begun_held units_laws n rest2 held2 b (repeated_needs z next first) got)
    (ap (λ l. read reason_of (repeated_payload z next first) (bytes_at place l)) (sym (ap (λ l. l ++ drop n held2) is ∙ take-append-drop n held2))
    ∙ broken_row units n _ _ place piece (drop n held2) reasons.HeaderDiffers long (all_fit piece fits) (rw differs refl))
    refl total (omega arith) e

pub repeated_same : {z : Past} {held0 held1 : List ℕ} {rest0 rest1 : Option (List ℕ)} {place : ℕ} (next : ℕ) (first : First) (held2 piece still : List ℕ) (rest2 : Option (List ℕ)) → Begun units z held0 rest0 rest1 place held1 (repeated_payload z next first)
    → Got (length first.payload) held1 held2 rest1 rest2 [] → length first.payload ≤ length held2 → piece ≡ take (length first.payload) held2 → still ≡ drop (length first.payload) held2 → ((i : ℕ) → get_or piece i 0 < 256) → starts_with nat_eq piece first.payload ≡ true
    → Begun units z held0 rest0 rest2 (place + length first.payload) still (next_checked z next >>= λ length. done Repeated)
unfolding repeated_payload ◌>>=◌ bytes_under
repeated_same {z} {held0} {held1} {rest0} {rest1} {place} next first held2 piece still rest2 b got many is left fits same =
    let n = length first.payload in
    let long : length piece ≡ n = omega (arith, ap (λ (l : List ℕ). length l) is, length-take n held2, many) in
    subst (λ p. Begun units z held0 rest0 rest2 p still (next_checked z next >>= λ length. done Repeated)) (omega (arith, long))
    (begun_use units_laws piece still (next_checked z next >>= λ length. done Repeated) (begun_held units_laws n rest2 held2 b (repeated_needs z next first) got)
    (sym (ap (λ l. piece ++ l) left ∙ ap (λ l. l ++ drop n held2) is ∙ take-append-drop n held2))
    (moves_row units n _ _ place piece long (all_fit piece fits) (rw same refl)))
