-- How the payload of the first sequence header comes out.
use Rattle.std.proofs.Common.{◌≡◌, ℕ, ◌+◌, ◌*◌, ◌/◌, ◌≤◌, true, false, List, length, take, drop, Option, Ok, Err, refl, sym, ap, subst, ◌∙◌, arith}
use Rattle.std.proofs.lemmas.List.{length-take, length-drop, take-append-drop, drop_at}
use Rattle.bit_codes.specs.Bits.{cursor_at}
use Rattle.field_rows.specs.Rows.{Rows, done, read, ◌>>=◌}
use Rattle.run_theory.specs.Grammar.{bytes_at}
use Rattle.run_theory.specs.Begun.{Begun}
use Rattle.run_theory.proofs.Begins.{begun_use, begun_use-gone}
use Rattle.sequence_header.specs.declared.parts.HeaderParts.{HeaderParts}
use Rattle.sequence_header.specs.declared.parts.HeaderReason.{HeaderReason}
use Rattle.sequence_header.specs.Header.{header_rows}
use Rattle.sequence_header.specs.Header as header
use Rattle.stream_rows.specs.declared.reason.Reason.{Reason}
use Rattle.stream_rows.specs.declared.reason.Reason.TheVariants as reasons
use Rattle.unit_reader.specs.declared.stop.ReadStop.{ReadStop}
use Rattle.unit_reader.specs.declared.stop.ReadStop.TheVariants as stops
use Rattle.stream_rows.specs.Units.{is_truncated, Past, First, DataUnit, Sequence, reason_of, header_reason, next_checked, first_payload, units, leads_behind}
use Rattle.stream_rows.specs.Streams.{limit}
use Rattle.stream_reader.specs.Turns.{Takes, IsFirstHeader, ReadsHeader}
use Rattle.unit_reader.specs.Stops.{StopsOver}
use Rattle.stream_rows.proofs.UnitsLaws.{units_laws}
use Rattle.stream_rows.proofs.Groups.{group_moves, group_refused}
use Rattle.stream_rows.proofs.UnitGroups.{header_group}
use Rattle.stream_reader.proofs.PartTurns.{checked_refused, checked_takes_gone}
use Rattle.unit_reader.proofs.Stopping.{stops_refused, stops_due}

abbrev behind : Past → ℕ → HeaderParts → Rows Reason DataUnit
behind z next parts = next_checked z next >>= λ length. done (Sequence parts)

-- the header stands
pub header_reads : {z : Past} {held0 held1 : List ℕ} {rest0 rest1 : Option (List ℕ)} {place : ℕ} (next : ℕ) (bytes : List ℕ) (parts : HeaderParts) (len : ℕ) → Begun units z held0 rest0 rest1 place held1 (first_payload z next) → place ≡ z.place + 13 → bytes ≡ held1
    → read header.reason_of header_rows (cursor_at bytes 0) ≡ Ok (parts, cursor_at bytes (8 * len)) → len ≤ length bytes → ReadsHeader z next held0 rest0 rest1 held1 parts len
unfolding first_payload
header_reads {z} {held0} {held1} {rest0} {rest1} {place} next bytes parts len b at same e le =
    let inside : len ≤ length held1 = omega (arith, le, ap (λ (l : List ℕ). length l) same) in
    let here : read header.reason_of header_rows (cursor_at held1 0) ≡ Ok (parts, cursor_at held1 (8 * len)) = subst (λ l. read header.reason_of header_rows (cursor_at l 0) ≡ Ok (parts, cursor_at l (8 * len))) same e in
    let piece = take len held1 in
    let moves = group_moves header_group (behind z next) place held1 parts len here inside in
    let split = sym (take-append-drop len held1) in
    let used = begun_use units_laws piece (drop len held1) (behind z next parts) b split moves in
    let gone : drop 13 used.gone ≡ piece = ap (drop 13) (begun_use-gone units_laws piece (drop len held1) (behind z next parts) b split moves) ∙ drop_at b.gone piece 13 (omega (arith, b.partway.at_is, at)) in
    let both = subst (λ p. (u : Begun units z held0 rest0 rest1 p (drop len held1) (behind z next parts)) × (drop 13 u.gone ≡ piece)) (omega (arith, at, length-take len held1, inside)) (used, gone) in
    record { inside = inside; begun = both.0; payload = both.1 }

-- it is refused
pub fault_there : {z : Past} {held0 held1 : List ℕ} {rest0 rest1 : Option (List ℕ)} {place : ℕ} (next : ℕ) (bytes : List ℕ) (bit : ℕ) (reason : HeaderReason) → Begun units z held0 rest0 rest1 place held1 (first_payload z next) → bytes ≡ held1
    → read header.reason_of header_rows (cursor_at bytes 0) ≡ Err (record { place = bit; reason = reason }) → read reason_of (first_payload z next) (bytes_at place held1) ≡ Err (record { place = 8 * place + bit; reason = header_reason reason })
unfolding first_payload
fault_there {z} {held1 = held1} {place = place} next bytes bit reason b same e =
    group_refused header_group (behind z next) place held1 (record { place = bit; reason = reason }) (subst (λ l. read header.reason_of header_rows (cursor_at l 0) ≡ Err (record { place = bit; reason = reason })) same e)

pub header_refused : {z : Past} {held0 held1 : List ℕ} {rest0 rest1 : Option (List ℕ)} {place : ℕ} (next : ℕ) (bytes : List ℕ) (bit : ℕ) (reason : HeaderReason) (named : Reason) (room : ℕ) (stop : ReadStop Reason) → Begun units z held0 rest0 rest1 place held1 (first_payload z next) → bytes ≡ held1
    → read header.reason_of header_rows (cursor_at bytes 0) ≡ Err (record { place = bit; reason = reason }) → named ≡ header_reason reason → is_truncated named ≡ false → place + length held1 + room ≡ limit
    → stop ≡ stops.Refused (record { place = place + bit / 8; reason = named }) → StopsOver units z held0 rest0 rest1 room stop
header_refused {z} {held1 = held1} {place = place} next bytes bit reason named room stop b same e name other total is =
    stops_refused units_laws room (8 * place + bit) (place + bit / 8) named stop b (subst (λ r. read reason_of (first_payload z next) (bytes_at place held1) ≡ Err (record { place = 8 * place + bit; reason = r })) (sym name) (fault_there next bytes bit reason b same e))
    other total (omega arith) is

-- ---- behind a header that stands

pub behind_due : {z : Past} {held0 held1 : List ℕ} {rest0 rest1 : Option (List ℕ)} (next : ℕ) (parts : HeaderParts) (len room : ℕ) (stop : ReadStop Reason) → ReadsHeader z next held0 rest0 rest1 held1 parts len → z.place + 13 + length held1 + room ≡ limit → stop ≡ stops.NoMemory → StopsOver units z held0 rest0 rest1 room stop
behind_due {z} {held0} {held1} {rest0} {rest1} next parts len room stop r total e =
    subst (StopsOver units z held0 rest0 rest1 room) (sym e) (stops_due room r.begun (omega (arith, total, r.inside, length-drop len held1)))

at_behind : {z : Past} {held0 held1 : List ℕ} {rest0 rest1 : Option (List ℕ)} (next : ℕ) (parts : HeaderParts) (len : ℕ) (still : List ℕ) → ReadsHeader z next held0 rest0 rest1 held1 parts len → still ≡ drop len held1
    → (b : Begun units z held0 rest0 rest1 (z.place + (13 + len)) still (behind z next parts)) × (drop 13 b.gone ≡ take len held1)
at_behind {z} {held0} {held1} {rest0} {rest1} next parts len still r left =
    subst (λ l. (b : Begun units z held0 rest0 rest1 (z.place + (13 + len)) l (behind z next parts)) × (drop 13 b.gone ≡ take len held1)) (sym left)
    (subst (λ p. (b : Begun units z held0 rest0 rest1 p (drop len held1) (behind z next parts)) × (drop 13 b.gone ≡ take len held1)) (omega arith) (r.begun, r.payload))

pub behind_refused : {z : Past} {held0 held1 : List ℕ} {rest0 rest1 : Option (List ℕ)} (next : ℕ) (parts : HeaderParts) (len : ℕ) (still : List ℕ) (room : ℕ) (stop : ReadStop Reason) → ReadsHeader z next held0 rest0 rest1 held1 parts len → still ≡ drop len held1 → leads_behind next (13 + len) ≡ false
    → z.place + 13 + length held1 + room ≡ limit → stop ≡ stops.Refused (record { place = z.place + 5; reason = reasons.OffsetWrong }) → StopsOver units z held0 rest0 rest1 room stop
behind_refused {held1 = held1} next parts len still room stop r left leads total e =
    checked_refused room next (13 + len) (Sequence parts) stop (at_behind next parts len still r left).0 leads (omega (arith, total, r.inside, length-drop len held1, ap (λ (l : List ℕ). length l) left)) e

pub behind_takes : {z : Past} {held0 held1 : List ℕ} {rest0 rest1 : Option (List ℕ)} (next : ℕ) (len : ℕ) (still : List ℕ) (room : ℕ) (first : First) → ReadsHeader z next held0 rest0 rest1 held1 first.parts len → still ≡ drop len held1 → leads_behind next (13 + len) ≡ true
    → z.place + 13 + length held1 + room ≡ limit → len ≤ 8192 → first.payload ≡ take len held1 → Takes z held0 rest0 rest1 room still (IsFirstHeader first)
behind_takes {held1 = held1} next len still room first r left leads total few copy =
    let b = at_behind next first.parts len still r left in
    checked_takes_gone room next (13 + len) (IsFirstHeader first) (Sequence first.parts) b.0 leads (omega (arith, total, r.inside, length-drop len held1, ap (λ (l : List ℕ). length l) left)) (omega (arith, few)) (refl, copy ∙ sym b.1)
