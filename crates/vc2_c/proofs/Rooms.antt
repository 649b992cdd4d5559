-- What two rooms hold after a run, by what the run comes to.
use Rattle.std.proofs.Common.{◌≡◌, ◌≤◌, ◌<◌, ℕ, List, [], ◌∷◌, ◌++◌, length, take, Option, Some, refl, sym, ap, subst, arith, inl, inr}
use Rattle.std.proofs.lemmas.List.{length-take}
use Rattle.std.specs.Io.KnownBytes.{Appends, Keeps}
use Rattle.vc2_io.specs.Outside.{IsPrefix, IsProperPrefix}
use Rattle.vc2_cli.specs.declared.status.Status.{Status}
use Rattle.vc2_cli.specs.declared.status.Status.TheVariants as st
use Rattle.run_theory.specs.Runs.{Change, HasFailed}
use Rattle.vc2_cli.specs.Exit.{exit_code_of}
use Rattle.vc2_cli.specs.Program.{ProgramRan}
use Rattle.vc2_cli.specs.Reply.{Reply, reply_to}
use Rattle.vc2_c.specs.Room.{room_seen, FailsFull}
use Rattle.vc2_c.specs.declared.room.Room.{Room}
use Rattle.vc2_c.specs.Call.{Filled, Overfills, IsAnswer}

-- a room: the loan's name, its bytes, how many were written, and how many writes failed
pub record Seen : Type 0 where
  pub name : ℕ
  pub cells : List ℕ
  pub len : ℕ
  pub failures : ℕ

abbrev pub seen : Room → Seen
seen room = record { name = room.cells.ghost_name; cells = room.cells.now; len = room.len; failures = room.failures }

abbrev pub changed : Seen → Seen → Change
changed old new = record {
  was = Some (room_seen old.name old.cells old.len);
  is = Some (room_seen new.name new.cells new.len);
  faults_were = old.failures;
  faults_are = new.failures;
}

-- an input in memory, whose reads never fail
abbrev pub read : List ℕ → List ℕ → Change
read input left = record { was = Some input; is = Some left; faults_were = 0; faults_are = 0 }

abbrev pub IsFresh : Seen → Type 0
IsFresh room = (room.len ≡ 0) × (room.failures ≡ 0)

-- the room is still the same
abbrev pub IsSame : Seen → Seen → Type 0
IsSame old new = (new.name ≡ old.name) × (length new.cells ≡ length old.cells)

abbrev pub filled : Seen → Seen → Filled
filled old new = record { size = length old.cells; bytes = take new.len new.cells }

-- what a call comes to
pub record Answered (reply : Reply) (out0 out note0 note : Seen) (code : ℕ) : Type 0 where
  pub same_out : IsSame out0 out
  pub same_note : IsSame note0 note
  pub answer : IsAnswer reply (filled out0 out) (filled note0 note) code

-- a text was written into a fresh room
grown : (old new : Seen) (text : List ℕ) → IsFresh old → Appends (Some (room_seen old.name old.cells old.len)) (Some (room_seen new.name new.cells new.len)) text → IsSame old new × (take new.len new.cells ≡ text)
grown old new text fresh e =
    let same : new.name ∷ length new.cells ∷ take new.len new.cells ≡ old.name ∷ length old.cells ∷ text = subst (λ (n : ℕ). Appends (Some (room_seen old.name old.cells n)) (Some (room_seen new.name new.cells new.len)) text) fresh.0 e in
    ((cc, cc), cc)

-- nothing was
kept : (old new : Seen) → IsFresh old → Keeps (Some (room_seen old.name old.cells old.len)) (Some (room_seen new.name new.cells new.len)) → IsSame old new × (take new.len new.cells ≡ [])
kept old new fresh e =
    let same : new.name ∷ length new.cells ∷ take new.len new.cells ≡ old.name ∷ length old.cells ∷ [] = subst (λ (n : ℕ). Keeps (Some (room_seen old.name old.cells n)) (Some (room_seen new.name new.cells new.len))) fresh.0 e in
    ((cc, cc), cc)

-- a write into it failed
failed : (old new : Seen) → IsFresh old → HasFailed (changed old new) → 0 < new.failures
failed old new fresh rose =
    let rises : HasFailed (record (changed old new) { faults_were = 0 }) = subst (λ (n : ℕ). HasFailed (record (changed old new) { faults_were = n })) fresh.1 rose in
    let some : 1 ≤ new.failures = rises.1 in
    omega (arith, some)

-- a part of a text was written, and then the room was full
overfilled : (old new : Seen) (whole part : List ℕ) → IsFresh old → FailsFull new.failures new.cells new.len → HasFailed (changed old new)
    → Appends (Some (room_seen old.name old.cells old.len)) (Some (room_seen new.name new.cells new.len)) part → IsProperPrefix part whole
    → IsSame old new × Overfills whole (filled old new)
overfilled old new whole part fresh full rose wrote proper =
    let g = grown old new part fresh wrote in
    (g.0, (omega (arith, length-take new.len new.cells, full (failed old new fresh rose), g.0.1), subst (λ (l : List ℕ). IsProperPrefix l whole) (sym g.1) proper))

-- the reply was told
replied : (reply : Reply) (out0 out note0 note : Seen) (status : Status) → IsFresh out0 → IsFresh note0 → exit_code_of status < 3 → status ≡ reply.status
    → (status ≡ reply.status → Appends (Some (room_seen out0.name out0.cells out0.len)) (Some (room_seen out.name out.cells out.len)) reply.out
    × Appends (Some (room_seen note0.name note0.cells note0.len)) (Some (room_seen note.name note.cells note.len)) reply.note)
    → Answered reply out0 out note0 note (exit_code_of status)
replied reply out0 out note0 note status fresh_out fresh_note low is texts =
    let o = grown out0 out reply.out fresh_out (texts is).0 in
    let n = grown note0 note reply.note fresh_note (texts is).1 in
    record { same_out = o.0; same_note = n.0; answer = inl (low, ap exit_code_of is, o.1, n.1) }

pub answered : (words : List (List ℕ)) (input left : List ℕ) (out0 out note0 note : Seen) (status : Status) → IsFresh out0 → IsFresh note0
    → FailsFull out.failures out.cells out.len → FailsFull note.failures note.cells note.len
    → ProgramRan words (read input left) (changed out0 out) (changed note0 note) status
    → Answered (reply_to words input) out0 out note0 note (exit_code_of status)
answered words input left out0 out note0 note st.Done fo fn full_out full_note ran =
    replied (reply_to words input) out0 out note0 note st.Done fo fn (omega arith) ran.status ran.texts
answered words input left out0 out note0 note (st.Refused refusal) fo fn full_out full_note ran =
    replied (reply_to words input) out0 out note0 note (st.Refused refusal) fo fn (omega arith) ran.status ran.texts
answered words input left out0 out note0 note (st.Schedule fault) fo fn full_out full_note ran =
    replied (reply_to words input) out0 out note0 note (st.Schedule fault) fo fn (omega arith) ran.status ran.texts
answered words input left out0 out note0 note (st.Usage fault) fo fn full_out full_note ran =
    replied (reply_to words input) out0 out note0 note (st.Usage fault) fo fn (omega arith) ran.status ran.texts
answered words input left out0 out note0 note st.ReadFault fo fn full_out full_note ran =
    absurd (let none : 1 ≤ 0 = ran.causes.0.1 in omega (arith, none))
answered words input left out0 out note0 note st.OutFault fo fn full_out full_note ran =
    let stops = ran.out_fault refl in
    let o = overfilled out0 out (reply_to words input).out stops.0.2 fo full_out ran.causes.1 stops.0.3 stops.0.4 in
    let n = kept note0 note fn stops.1 in
    record { same_out = o.0; same_note = n.0; answer = inr (inl (refl, o.1, n.1)) }
answered words input left out0 out note0 note st.NoteFault fo fn full_out full_note ran =
    let stops = ran.note_fault refl in
    let o = grown out0 out (reply_to words input).out fo stops.0 in
    let n = overfilled note0 note (reply_to words input).note stops.1.0 fn full_note ran.causes.2 stops.1.2 stops.1.1 in
    record { same_out = o.0; same_note = n.0; answer = inr (inr (inl (refl, o.1, n.1))) }
answered words input left out0 out note0 note st.NoMemory fo fn full_out full_note ran =
    let stops = ran.no_memory refl in
    let o = grown out0 out stops.0.2 fo stops.0.3 in
    let n = kept note0 note fn stops.1 in
    record { same_out = o.0; same_note = n.0; answer = inr (inr (inr (refl, subst (λ (l : List ℕ). IsPrefix l (reply_to words input).out) (sym o.1) stops.0.4, n.1))) }

-- no memory was found before anything was done
pub unanswered : (reply : Reply) (out note : Seen) (code : ℕ) → IsFresh out → IsFresh note → code ≡ 5 → IsAnswer reply (filled out out) (filled note note) code
unanswered reply out note code fo fn is =
    let no_out : take out.len out.cells ≡ [] = ap (λ (n : ℕ). take n out.cells) fo.0 in
    let no_note : take note.len note.cells ≡ [] = ap (λ (n : ℕ). take n note.cells) fn.0 in
    inr (inr (inr (is, (reply.out, subst (λ (l : List ℕ). reply.out ≡ l ++ reply.out) (sym no_out) refl), no_note)))
