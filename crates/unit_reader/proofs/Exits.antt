-- The exits of the loop of a command.
use Rattle.std.proofs.Common.{◌≡◌, ◌≤◌, ℕ, ◌+◌, ◌-◌, ◌^◌, ◌<◌, false, List, [], ◌++◌, length, take, Option, Some, None, Result, Ok, Err, refl, sym, ap, subst, ◌∙◌, arith, inl, inr}
use Rattle.std.proofs.lemmas.List.{length-append, length-take, take_all}
use Rattle.std.specs.Io.KnownBytes.{Appends, Consumes}
use Rattle.vc2_io.proofs.Known.{Consumes-none, Consumes-then}
use Rattle.field_rows.specs.Rows.{Fault}
use Rattle.run_theory.specs.Walk.{Machine, Ends, IsMachine, answer_to, all_but}
use Rattle.run_theory.specs.Ran.{Ran, TakesAtMost}
use Rattle.run_theory.specs.Runs.{WritesText, Closes}
use Rattle.run_theory.specs.Window.{Holds}
use Rattle.run_theory.specs.declared.Halt.{Halt}
use Rattle.run_theory.specs.declared.Halt.TheVariants as halts
use Rattle.run_theory.proofs.Windows.{holds_opened, ran_unopened, ran_unbegun}
use Rattle.run_theory.specs.Grammar.{Grammar}
use Rattle.run_theory.specs.Fronts.{Close, Front, Refuses, Between, Command, step_by}
use Rattle.run_theory.specs.Turn.{MeetsFront, RestsHere}
use Rattle.run_theory.specs.Begun.{Prompt, Lost, Due}
use Rattle.run_theory.proofs.FrontLaws.{machine_laws}
use Rattle.run_theory.proofs.Turning.{left_by, whole_unit, turned_more, turned_out_fault, turned_unwritten, turned_ended, turned_last_fault, turned_last_unwritten, turned_rested, turned_rest_fault, turned_rest_unwritten, turned_lost, turned_no_memory}
use Rattle.run_theory.specs.GrammarLaws.{IsGrammar}
use Rattle.unit_reader.specs.declared.stop.ReadStop.{ReadStop}
use Rattle.unit_reader.specs.declared.stop.ReadStop.TheVariants as stops
use Rattle.unit_reader.specs.declared.reader.Turn.{Turn}
use Rattle.unit_reader.specs.declared.reader.Turn.TheVariants as turns
use Rattle.unit_reader.specs.Stops.{limit, past_limit}
use Rattle.unit_reader.specs.Reading.{ReaderSeen, new_reader, TakesItem, TakesLast, NextOver}
use Rattle.unit_reader.specs.Running.{Passes, command_from, machine_over}
use Rattle.unit_reader.specs.Soon.{Soon, HasOpenEndings}
use Rattle.unit_reader.proofs.Opens.{IsOpenMachine, Unrefused, nothing_open, unrefused_first, unrefused_more, unrefused_took, open_behind, open_soon, opens_machine, waits_answer}

-- The bytes so far are those of the units so far and those that are held; the reader goes on.
pub record Goes {T Z R U : Type 0} (g : Grammar Z R U) (past_of : T → Z) (rest0 rest1 : Option (List ℕ)) (r : ReaderSeen T R) : Type 0 where
  pub taken : List ℕ
  pub total : length taken ≡ g.place (past_of r.table) + length r.held
  pub took : Consumes rest0 rest1 taken
  pub no_stop : r.stop ≡ None
  pub no_end : r.ended ≡ false
  pub most : g.place (past_of r.table) ≤ 2 ^ 40

pub goes_first : {T Z R U : Type 0} (g : Grammar Z R U) (past_of : T → Z) (rest : Option (List ℕ)) (table : T) (r : ReaderSeen T R) → r ≡ new_reader table → g.place (past_of table) ≡ 0 → Goes g past_of rest rest r
goes_first g past_of rest table r new zero = subst (Goes g past_of rest rest) (sym new) (record { taken = []; total = omega (arith, zero); took = Consumes-none rest; no_stop = refl; no_end = refl; most = omega (arith, zero) })

-- what stands between two units, of a reader that is new
between_first : {T Z R W : Type 0} (past_of : T → Z) (P : List ℕ → Between Z W → Type 0) (table : T) (r : ReaderSeen T R) (z : Z) (w start : W) → r ≡ new_reader table → past_of table ≡ z → w ≡ start → P [] (record { past = z; own = start }) → P r.held (record { past = past_of r.table; own = w })
between_first {T} {Z} {R} {W} past_of P table r z w start new is begins p =
    subst (λ (x : ReaderSeen T R). P x.held (record { past = past_of x.table; own = w })) (sym new)
    (subst (λ (y : Z). P [] (record { past = y; own = w })) (sym is) (subst (λ (v : W). P [] (record { past = z; own = v })) (sym begins) p))

pub holds_first : {T Z R U W E : Type 0} (g : Grammar Z R U) (too_long : R) (past_of : T → Z) (laws : IsGrammar g) (first : Z) (command : Command Z R U W E) (rest out0 out1 : Option (List ℕ)) (table : T) (r : ReaderSeen T R) (w : W) → r ≡ new_reader table → past_of table ≡ first → w ≡ command.start → Appends out0 out1 command.opening
    → Holds (machine_over g too_long first command) rest rest out0 out1 r.held (record { past = past_of r.table; own = w })
holds_first g too_long past_of laws first command rest out0 out1 table r w new is start wrote =
    between_first past_of (λ held b. Holds (machine_over g too_long first command) rest rest out0 out1 held b) table r first w command.start new is start
    (holds_opened (machine_laws limit (past_limit g too_long) g first command laws) rest out0 out1 wrote)

-- the opening was not written whole
pub ran_unopened_by : {Z R U W E : Type 0} (X : Type 0) (g : Grammar Z R U) (too_long : R) (first : Z) (command : Command Z R U W E) (rest out0 out1 : Option (List ℕ)) (halt : Halt) → WritesText {X = X} command.opening out0 out1 (Err halt) → Ran (machine_over g too_long first command) rest rest out0 out1 (Err halt)
ran_unopened_by X g too_long first command rest out0 out1 halts.ReadFault w = absurd w
ran_unopened_by X g too_long first command rest out0 out1 halts.OutFault w = ran_unopened (machine_over g too_long first command) rest out0 out1 w
ran_unopened_by X g too_long first command rest out0 out1 halts.NoMemory w = ran_unbegun (machine_over g too_long first command) rest out0 out1 w

-- ---- a unit was taken

pub goes_more : {T Z R U I : Type 0} {g : Grammar Z R U} {too_long : R} {past_of : T → Z} {Tells : T → T → U → List ℕ → I → Type 0} {old new : ReaderSeen T R} {rest0 rest1 rest2 : Option (List ℕ)} {item : I} → ((z : Z) (unit : U) (bytes : List ℕ) → g.place (g.after z unit bytes) ≡ g.place z + length bytes)
    → Goes g past_of rest0 rest1 old → TakesItem g too_long past_of Tells old new rest1 rest2 item → Goes g past_of rest0 rest2 new
goes_more {g = g} {past_of = past_of} {old = old} {new = new} {rest0 = rest0} {rest1 = rest1} {rest2 = rest2} along b n =
    let t = n.takes in
    let parts = ap (λ (l : List ℕ). length l) t.parts in
    let place = ap g.place n.past ∙ along (past_of old.table) n.unit n.bytes in
    record {
      taken = b.taken ++ t.read;
      total = omega (arith, length-append b.taken t.read, b.total, parts, length-append old.held t.read, length-append n.bytes new.held, place);
      took = Consumes-then rest0 rest1 rest2 b.taken t.read b.took t.took;
      no_stop = n.going.0;
      no_end = n.going.1;
      most = omega (arith, place, t.inside);
    }

pub place_more : {T Z R U I : Type 0} {g : Grammar Z R U} {too_long : R} {past_of : T → Z} {Tells : T → T → U → List ℕ → I → Type 0} {old new : ReaderSeen T R} {rest1 rest2 : Option (List ℕ)} {item : I} → ((z : Z) (unit : U) (bytes : List ℕ) → g.place (g.after z unit bytes) ≡ g.place z + length bytes)
    → TakesItem g too_long past_of Tells old new rest1 rest2 item → (g.place (past_of old.table) < g.place (past_of new.table)) × (g.place (past_of new.table) ≤ 2 ^ 40)
place_more {g = g} {past_of = past_of} {old = old} along n =
    let t = n.takes in
    let place = ap g.place n.past ∙ along (past_of old.table) n.unit n.bytes in
    (omega (arith, place, t.some), omega (arith, place, t.inside))

-- what a command sees of it, by the table that it is given
abbrev pub passes_item : {T Z R U I : Type 0} {g : Grammar Z R U} {too_long : R} {past_of : T → Z} {Tells : T → T → U → List ℕ → I → Type 0} {old new : ReaderSeen T R} {rest1 rest2 : Option (List ℕ)} {item : I} (table : T) → table ≡ new.table
    → TakesItem g too_long past_of Tells old new rest1 rest2 item → Passes g too_long past_of Tells old.table table item
passes_item {past_of = past_of} {Tells = Tells} {old = old} {new = new} {item = item} table is n = record {
  unit = n.unit;
  bytes = n.bytes;
  tells = subst (λ t. Tells old.table t n.unit n.bytes item) (sym is) n.tells;
  past = ap past_of is ∙ n.past;
  some = n.takes.some;
  fits = n.takes.inside;
  stands = inr (new.held, n.takes.stands new.held (λ some. some));
}

abbrev pub passes_last : {T Z R U I : Type 0} {g : Grammar Z R U} {too_long : R} {past_of : T → Z} {Tells : T → T → U → List ℕ → I → Type 0} {old new : ReaderSeen T R} {rest1 rest2 : Option (List ℕ)} {item : I} (table : T) → table ≡ new.table → ((z : Z) (unit : U) (bytes : List ℕ) → g.place (g.after z unit bytes) ≡ g.place z + length bytes) → g.place (past_of new.table) ≤ 2 ^ 40
    → TakesLast g too_long past_of Tells old new rest1 rest2 item → Passes g too_long past_of Tells old.table table item
passes_last {g = g} {past_of = past_of} {Tells = Tells} {old = old} {item = item} table is along most n = record {
  unit = n.unit;
  bytes = n.bytes;
  tells = subst (λ t. Tells old.table t n.unit n.bytes item) (sym is) n.tells;
  past = ap past_of is ∙ n.past;
  some = n.some;
  fits = omega (arith, most, ap g.place n.past ∙ along (past_of old.table) n.unit n.bytes);
  stands = inl n.final;
}

left_is : {Z R U W E : Type 0} (g : Grammar Z R U) (command : Command Z R U W E) (z z' : Z) (w w' : W) (unit : U) (bytes : List ℕ) → z' ≡ g.after z unit bytes → w' ≡ command.next z w unit bytes → left_by g command (record { past = z; own = w }) unit bytes ≡ record { past = z'; own = w' }
left_is g command z z' w w' unit bytes e h = ap (λ y. record { past = y; own = command.next z w unit bytes }) (sym e) ∙ ap (λ v. record { past = z'; own = v }) (sym h)

pub holds_turn : {T Z R U W E I : Type 0} {g : Grammar Z R U} {too_long : R} {past_of : T → Z} {Tells : T → T → U → List ℕ → I → Type 0} {old new : ReaderSeen T R} {rest1 rest2 : Option (List ℕ)} {item : I} (laws : IsGrammar g) (first : Z) (command : Command Z R U W E) (rest0 out0 out1 out2 : Option (List ℕ)) (w w' : W)
    → Holds (machine_over g too_long first command) rest0 rest1 out0 out1 old.held (record { past = past_of old.table; own = w }) → (n : TakesItem g too_long past_of Tells old new rest1 rest2 item)
    → Appends out1 out2 (command.text (past_of old.table) w n.unit n.bytes) × (w' ≡ command.next (past_of old.table) w n.unit n.bytes)
    → Holds (machine_over g too_long first command) rest0 rest2 out0 out2 new.held (record { past = past_of new.table; own = w' })
holds_turn {g = g} {too_long = too_long} {past_of = past_of} {old = old} {new = new} {rest2 = rest2} laws first command rest0 out0 out1 out2 w w' h n wrote =
    subst (λ (b : Between _ _). Holds (machine_over g too_long first command) rest0 rest2 out0 out2 new.held b) (left_is g command (past_of old.table) (past_of new.table) w w' n.unit n.bytes n.past wrote.1)
    (turned_more first command laws rest0 out0 out1 out2 h n.takes wrote.0)

-- its text was not written whole
pub ran_unwritten : {T Z R U W E I : Type 0} (X : Type 0) {g : Grammar Z R U} {too_long : R} {past_of : T → Z} {Tells : T → T → U → List ℕ → I → Type 0} {old new : ReaderSeen T R} {rest1 rest2 : Option (List ℕ)} {item : I} (laws : IsGrammar g) (first : Z) (command : Command Z R U W E) (rest0 out0 out1 out2 : Option (List ℕ)) (w : W) (halt : Halt)
    → Holds (machine_over g too_long first command) rest0 rest1 out0 out1 old.held (record { past = past_of old.table; own = w }) → (n : TakesItem g too_long past_of Tells old new rest1 rest2 item) → WritesText {X = X} (command.text (past_of old.table) w n.unit n.bytes) out1 out2 (Err halt)
    → Ran (machine_over g too_long first command) rest0 rest2 out0 out2 (Err halt)
ran_unwritten X laws first command rest0 out0 out1 out2 w halts.ReadFault h n wrote = absurd wrote
ran_unwritten X laws first command rest0 out0 out1 out2 w halts.OutFault h n wrote = turned_out_fault first command laws rest0 out0 out1 out2 h n.takes wrote
ran_unwritten X {g = g} {too_long = too_long} {rest2 = rest2} laws first command rest0 out0 out1 out2 w halts.NoMemory h n wrote =
    subst (λ (o : Option (List ℕ)). Ran (machine_over g too_long first command) rest0 rest2 out0 o (Err halts.NoMemory)) (sym wrote) (turned_unwritten first command laws rest0 out0 out1 h n.takes)

-- ---- the run is over

-- behind the last unit or at a refusal
ran_closed : {Z R U W E : Type 0} {g : Grammar Z R U} {z : Z} {w : W} {held : List ℕ} {rest1 rest2 : Option (List ℕ)} {front : Front R U} (too_long : R) (laws : IsGrammar g) (first : Z) (command : Command Z R U W E) (rest0 out0 out1 out2 : Option (List ℕ)) (close : Close E) (result : Result E Halt)
    → Holds (machine_over g too_long first command) rest0 rest1 out0 out1 held (record { past = z; own = w }) → (n : MeetsFront limit (past_limit g too_long) g z held rest1 rest2 front) → ((more : List ℕ) → rest2 ≡ Some more → step_by g command z w (held ++ n.read ++ more) front ≡ Ends close.ending close.last)
    → Closes close.ending close.last out1 out2 result → Ran (machine_over g too_long first command) rest0 rest2 out0 out2 result
ran_closed {g = g} {rest2 = rest2} too_long laws first command rest0 out0 out1 out2 close (Ok told) h n ends c =
    subst (λ e. Ran (machine_over g too_long first command) rest0 rest2 out0 out2 (Ok e)) (sym c.0) (turned_ended first command laws rest0 out0 out1 out2 close h n ends c.1)
ran_closed too_long laws first command rest0 out0 out1 out2 close (Err halts.ReadFault) h n ends c = absurd c
ran_closed too_long laws first command rest0 out0 out1 out2 close (Err halts.OutFault) h n ends c = turned_last_fault first command laws rest0 out0 out1 out2 close h n ends c
ran_closed {g = g} {rest2 = rest2} too_long laws first command rest0 out0 out1 out2 close (Err halts.NoMemory) h n ends c =
    subst (λ (o : Option (List ℕ)). Ran (machine_over g too_long first command) rest0 rest2 out0 o (Err halts.NoMemory)) (sym c) (turned_last_unwritten first command laws rest0 out0 out1 h n)

pub ran_finished : {T Z R U W E I : Type 0} {g : Grammar Z R U} {too_long : R} {past_of : T → Z} {Tells : T → T → U → List ℕ → I → Type 0} {old new : ReaderSeen T R} {rest1 rest2 : Option (List ℕ)} {item : I} (laws : IsGrammar g) (first : Z) (command : Command Z R U W E) (rest0 out0 out1 out2 : Option (List ℕ)) (w : W) (result : Result E Halt)
    → Holds (machine_over g too_long first command) rest0 rest1 out0 out1 old.held (record { past = (past_of old.table); own = w }) → (n : TakesLast g too_long past_of Tells old new rest1 rest2 item)
    → (let close = command.finished (past_of old.table) w n.unit n.bytes in Closes close.ending close.last out1 out2 result) → Ran (machine_over g too_long first command) rest0 rest2 out0 out2 result
ran_finished {too_long = too_long} {past_of = past_of} {old = old} laws first command rest0 out0 out1 out2 w result h n c =
    ran_closed too_long laws first command rest0 out0 out1 out2 (command.finished (past_of old.table) w n.unit n.bytes) result h n.meets
    (λ more told. ap (λ l. let close = command.finished (past_of old.table) w n.unit l in Ends close.ending close.last) (ap (take (length n.bytes)) (n.whole more told) ∙ take_all (length n.bytes) n.bytes (omega arith))) c

pub ran_refused : {Z R U W E : Type 0} {g : Grammar Z R U} {z : Z} {w : W} {held : List ℕ} {rest1 rest2 : Option (List ℕ)} (too_long : R) (laws : IsGrammar g) (first : Z) (command : Command Z R U W E) (rest0 out0 out1 out2 : Option (List ℕ)) (fault : Fault R) (result : Result E Halt)
    → Holds (machine_over g too_long first command) rest0 rest1 out0 out1 held (record { past = z; own = w }) → MeetsFront limit (past_limit g too_long) g z held rest1 rest2 (Refuses fault)
    → (let close = command.refused z w fault in Closes close.ending close.last out1 out2 result) → Ran (machine_over g too_long first command) rest0 rest2 out0 out2 result
ran_refused {z = z} {w = w} too_long laws first command rest0 out0 out1 out2 fault result h n c = ran_closed too_long laws first command rest0 out0 out1 out2 (command.refused z w fault) result h n (λ more told. refl) c

-- before a unit
pub ran_rested : {Z R U W E : Type 0} {g : Grammar Z R U} {z : Z} {w : W} {held : List ℕ} {rest1 rest2 : Option (List ℕ)} (too_long : R) (laws : IsGrammar g) (first : Z) (command : Command Z R U W E) (rest0 out0 out1 out2 : Option (List ℕ)) (result : Result E Halt)
    → Holds (machine_over g too_long first command) rest0 rest1 out0 out1 held (record { past = z; own = w }) → RestsHere g z held rest1 rest2
    → (let close = command.rested z w in Closes close.ending close.last out1 out2 result) → Ran (machine_over g too_long first command) rest0 rest2 out0 out2 result
ran_rested {g = g} {rest2 = rest2} too_long laws first command rest0 out0 out1 out2 (Ok told) h n c =
    subst (λ e. Ran (machine_over g too_long first command) rest0 rest2 out0 out2 (Ok e)) (sym c.0) (turned_rested limit (past_limit g too_long) first command laws rest0 out0 out1 out2 h n c.1)
ran_rested too_long laws first command rest0 out0 out1 out2 (Err halts.ReadFault) h n c = absurd c
ran_rested {g = g} too_long laws first command rest0 out0 out1 out2 (Err halts.OutFault) h n c = turned_rest_fault limit (past_limit g too_long) first command laws rest0 out0 out1 out2 h n c
ran_rested {g = g} {rest2 = rest2} too_long laws first command rest0 out0 out1 out2 (Err halts.NoMemory) h n c =
    subst (λ (o : Option (List ℕ)). Ran (machine_over g too_long first command) rest0 rest2 out0 o (Err halts.NoMemory)) (sym c) (turned_rest_unwritten limit (past_limit g too_long) first command laws rest0 out0 out1 h n)

pub ran_lost : {Z R U W E : Type 0} {g : Grammar Z R U} {b : Between Z W} {held : List ℕ} {rest1 rest2 : Option (List ℕ)} {top : ℕ} (too_long : R) (laws : IsGrammar g) (first : Z) (command : Command Z R U W E) (rest0 out0 out1 : Option (List ℕ))
    → Holds (machine_over g too_long first command) rest0 rest1 out0 out1 held b → Lost g b.past held rest1 rest2 top → Ran (machine_over g too_long first command) rest0 rest2 out0 out1 (Err halts.ReadFault)
ran_lost {g = g} too_long laws first command rest0 out0 out1 h n = turned_lost limit (past_limit g too_long) first command laws rest0 out0 out1 h n

pub ran_no_memory : {Z R U W E : Type 0} {g : Grammar Z R U} {b : Between Z W} {held : List ℕ} {rest1 rest2 : Option (List ℕ)} {top : ℕ} (too_long : R) (laws : IsGrammar g) (first : Z) (command : Command Z R U W E) (rest0 out0 out1 : Option (List ℕ))
    → Holds (machine_over g too_long first command) rest0 rest1 out0 out1 held b → Due g b.past held rest1 rest2 top → Ran (machine_over g too_long first command) rest0 rest2 out0 out1 (Err halts.NoMemory)
ran_no_memory {g = g} too_long laws first command rest0 out0 out1 h n = turned_no_memory limit (past_limit g too_long) first command laws rest0 out0 out1 h n

-- ---- the bytes that were taken, and the causes

turn_bytes : {T Z R U I : Type 0} (g : Grammar Z R U) (too_long : R) (past_of : T → Z) (Tells : T → T → U → List ℕ → I → Type 0) (Stopped : T → T → List ℕ → Option (List ℕ) → List ℕ → ReadStop R → Type 0) (old new : ReaderSeen T R) (rest1 rest2 : Option (List ℕ)) (result : Result (Turn I) (ReadStop R)) → g.place (past_of old.table) ≤ 2 ^ 40 → NextOver g too_long past_of Tells Stopped old new rest1 rest2 result
    → (read : List ℕ) × Consumes rest1 rest2 read × (g.place (past_of old.table) + length (old.held ++ read) ≤ limit + 1) × Prompt g (past_of old.table) (old.held ++ read)
turn_bytes g too_long past_of Tells Stopped old new rest1 rest2 (Ok (turns.Unit item)) most n = (n.takes.read, n.takes.took, omega (arith, n.takes.most), n.takes.prompt)
turn_bytes g too_long past_of Tells Stopped old new rest1 rest2 (Ok (turns.Last item)) most n = (n.meets.read, n.meets.took, n.meets.most, n.meets.prompt)
turn_bytes g too_long past_of Tells Stopped old new rest1 rest2 (Ok turns.Rest) most n =
    let none : length (old.held ++ []) ≡ 0 = omega (arith, ap (λ (l : List ℕ). length l) n.rests.none, length-append old.held []) in
    ([], n.rests.took, omega (arith, most, none), record { prompt = λ long. absurd (omega (arith, long, none)) })
turn_bytes g too_long past_of Tells Stopped old new rest1 rest2 (Err (stops.Refused refusal)) most n = (n.0.meets.read, n.0.meets.took, n.0.meets.most, n.0.meets.prompt)
turn_bytes g too_long past_of Tells Stopped old new rest1 rest2 (Err stops.ReadFault) most n = (n.0.2.read, n.0.2.took, omega (arith, n.0.2.top_is, n.0.1), n.0.2.prompt)
turn_bytes g too_long past_of Tells Stopped old new rest1 rest2 (Err stops.NoMemory) most n = (n.0.2.read, n.0.2.took, omega (arith, n.0.2.top_is, n.0.1), n.0.2.prompt)

pub takes_at_most : {T Z R U I : Type 0} (g : Grammar Z R U) (too_long : R) (past_of : T → Z) (Tells : T → T → U → List ℕ → I → Type 0) (Stopped : T → T → List ℕ → Option (List ℕ) → List ℕ → ReadStop R → Type 0) (old new : ReaderSeen T R) (rest0 rest1 rest2 : Option (List ℕ)) (result : Result (Turn I) (ReadStop R)) → Goes g past_of rest0 rest1 old → NextOver g too_long past_of Tells Stopped old new rest1 rest2 result → TakesAtMost (2 ^ 40 + 1) rest0 rest2
takes_at_most g too_long past_of Tells Stopped old new rest0 rest1 rest2 result b n =
    let t = turn_bytes g too_long past_of Tells Stopped old new rest1 rest2 result b.most n in
    (b.taken ++ t.0, omega (arith, length-append b.taken t.0, length-append old.held t.0, b.total, t.2), Consumes-then rest0 rest1 rest2 b.taken t.0 b.took t.1)

-- ---- how soon the run is over

-- a command that begins with this has the same endings
pub begun_opens : {Z R U W E : Type 0} {MayGoOn : E → Type 0} {g : Grammar Z R U} (command : Command Z R U W E) (own : W) → HasOpenEndings g MayGoOn command → HasOpenEndings g MayGoOn (command_from command own)
begun_opens command own opens = record { finished = opens.finished; rested = opens.rested; refused = opens.refused }

pub unrefused_begun : {T Z R U W E : Type 0} (MayGoOn : E → Type 0) (g : Grammar Z R U) (too_long : R) (past_of : T → Z) (laws : IsGrammar g) (first : Z) (command : Command Z R U W E) (opens : HasOpenEndings g MayGoOn command) (rest : Option (List ℕ)) (table : T) (r : ReaderSeen T R) (w : W) → r ≡ new_reader table → past_of table ≡ first → w ≡ command.start
    → Unrefused MayGoOn (machine_over g too_long first command) rest rest r.held (record { past = past_of r.table; own = w })
unrefused_begun MayGoOn g too_long past_of laws first command opens rest table r w new is start =
    between_first past_of (λ held b. Unrefused MayGoOn (machine_over g too_long first command) rest rest held b) table r first w command.start new is start
    (unrefused_first MayGoOn (machine_over g too_long first command) (machine_laws limit (past_limit g too_long) g first command laws) (opens_machine MayGoOn g too_long laws first command opens) rest)

pub unrefused_turn : {T Z R U W E I : Type 0} {MayGoOn : E → Type 0} {g : Grammar Z R U} {too_long : R} {past_of : T → Z} {Tells : T → T → U → List ℕ → I → Type 0} {old new : ReaderSeen T R} {rest1 rest2 : Option (List ℕ)} {item : I} (laws : IsGrammar g) (first : Z) (command : Command Z R U W E) (opens : HasOpenEndings g MayGoOn command) (rest0 : Option (List ℕ)) (w w' : W)
    → Unrefused MayGoOn (machine_over g too_long first command) rest0 rest1 old.held (record { past = past_of old.table; own = w }) → (n : TakesItem g too_long past_of Tells old new rest1 rest2 item) → w' ≡ command.next (past_of old.table) w n.unit n.bytes
    → Unrefused MayGoOn (machine_over g too_long first command) rest0 rest2 new.held (record { past = past_of new.table; own = w' })
unrefused_turn {Z = Z} {W = W} {MayGoOn = MayGoOn} {g = g} {too_long = too_long} {past_of = past_of} {old = old} {new = new} {rest2 = rest2} laws first command opens rest0 w w' u n is =
    let M = machine_over g too_long first command in
    let t = n.takes in
    let b : Between Z W = record { past = past_of old.table; own = w } in
    subst (λ (b : Between _ _). Unrefused MayGoOn M rest0 rest2 new.held b) (left_is g command (past_of old.table) (past_of new.table) w w' n.unit n.bytes n.past is)
    (unrefused_more MayGoOn (machine_laws limit (past_limit g too_long) g first command laws) (opens_machine MayGoOn g too_long laws first command opens) rest2 t.read n.bytes new.held (command.text (past_of old.table) w n.unit n.bytes) (left_by g command b n.unit n.bytes) u t.took t.parts t.some
    (λ more fits. whole_unit limit (past_limit g too_long) g laws first command b n.bytes more n.unit (t.stands more fits)))

prompt_open : {Z R U W E : Type 0} (MayGoOn : E → Type 0) (g : Grammar Z R U) (too_long : R) {b : Between Z W} {rest0 rest1 : Option (List ℕ)} {held : List ℕ} (laws : IsGrammar g) (first : Z) (command : Command Z R U W E) (opens : HasOpenEndings g MayGoOn command)
    (u : Unrefused MayGoOn (machine_over g too_long first command) rest0 rest1 held b) (v : List ℕ) → g.place b.past + length v ≤ limit + 1 → Prompt g b.past v → MayGoOn (answer_to (machine_over g too_long first command) (all_but 4096 (u.done ++ v))).ending
prompt_open MayGoOn g too_long {b = b} laws first command opens u v most prompt =
    open_soon MayGoOn (machine_laws limit (past_limit g too_long) g first command laws) (opens_machine MayGoOn g too_long laws first command opens) u v
    (λ long. waits_answer MayGoOn g too_long laws first command opens b (take (length v - 4096) v) (omega (arith, most, long, length-take (length v - 4096) v)) (prompt.prompt long))

-- the run is over with this turn, and no read of it failed
pub turned_soon : {T Z R U W E I : Type 0} {MayGoOn : E → Type 0} {g : Grammar Z R U} (too_long : R) (past_of : T → Z) (Tells : T → T → U → List ℕ → I → Type 0) (Stopped : T → T → List ℕ → Option (List ℕ) → List ℕ → ReadStop R → Type 0) {w : W} (old new : ReaderSeen T R) (rest0 rest1 rest2 : Option (List ℕ)) (turn : Result (Turn I) (ReadStop R)) (laws : IsGrammar g) (first : Z) (command : Command Z R U W E) (opens : HasOpenEndings g MayGoOn command) (result : Result E Halt)
    → g.place (past_of old.table) ≤ 2 ^ 40 → Unrefused MayGoOn (machine_over g too_long first command) rest0 rest1 old.held (record { past = past_of old.table; own = w }) → NextOver g too_long past_of Tells Stopped old new rest1 rest2 turn → (result ≡ Err halts.ReadFault → ⊥)
    → Soon MayGoOn (machine_over g too_long first command) 4096 rest0 rest2 result
turned_soon {MayGoOn = MayGoOn} {g = g} too_long past_of Tells Stopped old new rest0 rest1 rest2 turn laws first command opens result most u n none =
    let t = turn_bytes g too_long past_of Tells Stopped old new rest1 rest2 turn most n in
    record {
      taken = u.done ++ (old.held ++ t.0);
      took = unrefused_took MayGoOn rest2 t.0 u t.1;
      goes = prompt_open MayGoOn g too_long laws first command opens u (old.held ++ t.0) t.2 t.3;
      lost = λ e. absurd (none e);
    }

-- a read failed
pub lost_soon : {Z R U W E : Type 0} {MayGoOn : E → Type 0} {g : Grammar Z R U} {b : Between Z W} {held : List ℕ} {top : ℕ} (too_long : R) (rest0 rest1 rest2 : Option (List ℕ)) (laws : IsGrammar g) (first : Z) (command : Command Z R U W E) (opens : HasOpenEndings g MayGoOn command) (result : Result E Halt)
    → Unrefused MayGoOn (machine_over g too_long first command) rest0 rest1 held b → top ≤ limit → Lost g b.past held rest1 rest2 top → Soon MayGoOn (machine_over g too_long first command) 4096 rest0 rest2 result
lost_soon {MayGoOn = MayGoOn} {g = g} {b = b} {held = held} too_long rest0 rest1 rest2 laws first command opens result u most n =
    let v = held ++ n.read in
    record {
      taken = u.done ++ v;
      took = unrefused_took MayGoOn rest2 n.read u n.took;
      goes = prompt_open MayGoOn g too_long laws first command opens u v (omega (arith, most, n.top_is)) n.prompt;
      lost = λ e. open_behind MayGoOn u v (λ some. omega (arith, some, length-append held n.read)) (waits_answer MayGoOn g too_long laws first command opens b v (omega (arith, most, n.top_is)) n.waits);
    }

-- nothing was read
pub none_soon : {Z E X : Type 0} (MayGoOn : E → Type 0) (machine : Machine Z E) → IsMachine machine → IsOpenMachine MayGoOn machine → (rest : Option (List ℕ)) (result : Result X Halt) → Soon MayGoOn machine 4096 rest rest result
none_soon MayGoOn machine laws opens rest result = record {
  taken = [];
  took = Consumes-none rest;
  goes = nothing_open MayGoOn machine laws opens machine.start;
  lost = λ e. nothing_open MayGoOn machine laws opens machine.start;
}
