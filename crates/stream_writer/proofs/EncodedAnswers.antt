-- What a command over the units makes of a unit that an encoder writes.
use Rattle.std.proofs.Common.{◌≡◌, ℕ, ◌+◌, ◌≤◌, false, List, [], ◌++◌, length, take, drop, refl, ap, ◌∙◌, arith}
use Rattle.std.proofs.Math.Seq.{drop-append_seam}
use Rattle.std.proofs.lemmas.List.{take_at, take_all}
use Rattle.bit_codes.specs.Bits.{Cursor}
use Rattle.field_rows.specs.Rows.{done}
use Rattle.run_theory.specs.Walk.{Ends, answer_from, after_step, before}
use Rattle.run_theory.proofs.Walks.{answer_step}
use Rattle.run_theory.specs.Grammar.{bytes_at}
use Rattle.run_theory.specs.Begun.{Moves}
use Rattle.run_theory.specs.Fronts.{Stands, Finishes, front_of, front_within, Between, Command, step_by}
use Rattle.run_theory.proofs.FrontLaws.{front_before, step-stands}
use Rattle.stream_rows.specs.declared.reason.Reason.{Reason}
use Rattle.stream_rows.specs.Units.{Past, nothing_yet, DataUnit, End, unit_rows, after, units}
use Rattle.stream_rows.specs.Streams.{ends, Entry, limit, past_limit}
use Rattle.stream_rows.proofs.UnitsLaws.{units_laws}
use Rattle.stream_rows.proofs.Tables.{stream_table}
use Rattle.stream_rows.proofs.StreamLaws.{stands_front}
use Rattle.stream_rows.proofs.Answering.{machine, laws_of, last-front}
use Rattle.stream_writer.proofs.EncodedStreams.{stands, end_stands}

unit_front : (z : Past) (unit : DataUnit) (bytes more : List ℕ) → Moves units (unit_rows z) z.place bytes (done unit) → ends unit (bytes_at (z.place + length bytes) more) ≡ false → z.place + length (bytes ++ more) ≤ limit → front_within limit past_limit units z (bytes ++ more) ≡ Stands (length bytes) unit
unit_front z unit bytes more m no_end within =
    let mid = bytes_at (z.place + length bytes) more in
    let s = stands z unit bytes more m in
    let g = stands_front unit_rows stream_table z (bytes ++ more) s.0 unit mid s.1 in
    let size : g.size ≡ length bytes = omega (arith, ap (λ (c : Cursor). c.place) g.at) in
    front_before limit past_limit units z (bytes ++ more) (omega (arith, within)) ∙ g.front ∙ (rw no_end (ap (λ n. Stands n unit) size))

-- a unit before others
pub one_unit : {W E : Type 0} (command : Command Past Reason DataUnit W E) (z : Past) (own : W) (unit : DataUnit) (bytes more : List ℕ) → Moves units (unit_rows z) z.place bytes (done unit) → ends unit (bytes_at (z.place + length bytes) more) ≡ false → z.place + length (bytes ++ more) ≤ limit
    → answer_from (machine command) (record { past = z; own = own }) (bytes ++ more) ≡ before (command.text z own unit bytes) (answer_from (machine command) (record { past = after z unit bytes; own = command.next z own unit bytes }) more)
one_unit {W} command z own unit bytes more m no_end within =
    let all = bytes ++ more in
    let taken : take (length bytes) all ≡ bytes = take_at bytes more (length bytes) refl in
    let dropped : drop (length bytes) all ≡ more = drop-append_seam bytes more in
    answer_step (machine command) (laws_of unit_rows stream_table command) (record { past = z; own = own }) all
    ∙ ap (λ s. after_step s (λ size left. answer_from (machine command) left (drop size all))) (step-stands limit past_limit units units_laws nothing_yet command z own all (length bytes) unit (unit_front z unit bytes more m no_end within))
    ∙ ap (λ t. let b : Between Past W = record { past = after z unit t; own = command.next z own unit t } in before (command.text z own unit t) (answer_from (machine command) b (drop (length bytes) all))) taken
    ∙ ap (λ d. before (command.text z own unit bytes) (answer_from (machine command) (record { past = after z unit bytes; own = command.next z own unit bytes }) d)) dropped

-- the end
pub last_unit : {W E : Type 0} (command : Command Past Reason DataUnit W E) (z : Past) (own : W) (bytes : List ℕ) → Moves units (unit_rows z) z.place bytes (done End) → z.place + length bytes ≤ limit
    → answer_from (machine command) (record { past = z; own = own }) bytes ≡ record { ending = (command.finished z own End bytes).ending; text = []; last = (command.finished z own End bytes).last }
last_unit {W} command z own bytes m within =
    let behind = bytes_at (z.place + length bytes) [] in
    let s = end_stands z bytes m in
    let last : Entry = record { fields = s.0; unit = End } in
    let front : front_of units z bytes ≡ Finishes (length bytes) End = last-front unit_rows stream_table z bytes last behind s.1 refl in
    let here : front_within limit past_limit units z bytes ≡ Finishes (length bytes) End = front_before limit past_limit units z bytes (omega (arith, within)) ∙ front in
    answer_step (machine command) (laws_of unit_rows stream_table command) (record { past = z; own = own }) bytes
    ∙ ap (λ p. after_step p (λ size left. answer_from (machine command) left (drop size bytes)))
    (ap (step_by units command z own bytes) here ∙ ap (λ l. let close = command.finished z own End l in Ends close.ending close.last) (take_all (length bytes) bytes (omega arith)))
