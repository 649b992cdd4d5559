-- How the run of a command comes out of its turns.
use Rattle.std.proofs.Common.{◌≡◌, ℕ, List, [], ◌++◌, length, Option, Some, Ok, Err, true, refl, ap, ◌∙◌, arith}
use Rattle.std.proofs.lemmas.List.{take_at, length-append}
use Rattle.std.specs.Io.KnownBytes.{Appends}
use Rattle.vc2_io.specs.Outside.{GrewShort}
use Rattle.field_rows.specs.Rows.{Fault}
use Rattle.run_theory.specs.Walk.{Ends, Whole}
use Rattle.run_theory.specs.Ran.{Ran}
use Rattle.run_theory.specs.Window.{Holds}
use Rattle.run_theory.specs.declared.Halt.TheVariants.{ReadFault, OutFault, NoMemory}
use Rattle.run_theory.proofs.Windows.{NoneDue, holds_more, holds_lost, holds_no_memory, holds_out_fault, holds_ended, holds_last_fault}
use Rattle.run_theory.specs.Grammar.{Grammar}
use Rattle.run_theory.specs.Fronts.{Close, Front, Stands, front_within, Between, Command, step_by, machine_of}
use Rattle.run_theory.specs.Begun.{Prompt, Lost, Due}
use Rattle.run_theory.specs.Turn.{TakesUnit, MeetsFront, RestsHere}
use Rattle.run_theory.proofs.GrammarLaws.{IsGrammar}
use Rattle.run_theory.proofs.FrontLaws.{step-stands, machine_laws, none_whole, rest_none}
use Rattle.run_theory.proofs.Begins.{nothing_more}

pub none_due : {Z R U W E : Type 0} (limit : ℕ) (past : Fault R → Fault R) (g : Grammar Z R U) (first : Z) (command : Command Z R U W E) → IsGrammar g → (b : Between Z W) (bytes : List ℕ) → Prompt g b.past bytes → NoneDue (machine_of limit past g first command) b bytes
none_due limit past g first command laws b bytes f long = none_whole limit past g first command laws b _ (f.prompt long)

-- what a unit of these bytes leaves
abbrev pub left_by : {Z R U W E : Type 0} → Grammar Z R U → Command Z R U W E → Between Z W → U → List ℕ → Between Z W
left_by g command b unit bytes = record { past = g.after b.past unit bytes; own = command.next b.past b.own unit bytes }

pub whole_unit : {Z R U W E : Type 0} (limit : ℕ) (past : Fault R → Fault R) (g : Grammar Z R U) (laws : IsGrammar g) (first : Z) (command : Command Z R U W E) (b : Between Z W) (bytes more : List ℕ) (unit : U) → front_within limit past g b.past (bytes ++ more) ≡ Stands (length bytes) unit
    → (machine_of limit past g first command).step b (bytes ++ more) ≡ Whole (length bytes) (command.text b.past b.own unit bytes) (left_by g command b unit bytes)
whole_unit limit past g laws first command b bytes more unit e =
    step-stands limit past g laws first command b.past b.own (bytes ++ more) (length bytes) unit e
    ∙ ap (λ l. Whole (length bytes) (command.text b.past b.own unit l) (left_by g command b unit l)) (take_at bytes more (length bytes) refl)

-- a unit was taken, and its text was written
pub turned_more : {Z R U W E : Type 0} {limit : ℕ} {past : Fault R → Fault R} {g : Grammar Z R U} {b : Between Z W} {rest1 rest2 : Option (List ℕ)} {held bytes still : List ℕ} {unit : U} (first : Z) (command : Command Z R U W E) (laws : IsGrammar g) (rest0 out0 out1 out2 : Option (List ℕ))
    → Holds (machine_of limit past g first command) rest0 rest1 out0 out1 held b → TakesUnit limit past g b.past held rest1 rest2 unit bytes still → Appends out1 out2 (command.text b.past b.own unit bytes)
    → Holds (machine_of limit past g first command) rest0 rest2 out0 out2 still (left_by g command b unit bytes)
turned_more {limit = limit} {past = past} {g = g} {b = b} {rest2 = rest2} {bytes = bytes} {still = still} {unit = unit} first command laws rest0 out0 out1 out2 h n wrote =
    holds_more (machine_laws limit past g first command laws) rest2 out2 n.read bytes still (command.text b.past b.own unit bytes) (left_by g command b unit bytes) h n.took n.parts n.some (λ more fits. whole_unit limit past g laws first command b bytes more unit (n.stands more fits)) wrote

-- a write of its text failed
pub turned_out_fault : {Z R U W E : Type 0} {limit : ℕ} {past : Fault R → Fault R} {g : Grammar Z R U} {b : Between Z W} {rest1 rest2 : Option (List ℕ)} {held bytes still : List ℕ} {unit : U} (first : Z) (command : Command Z R U W E) (laws : IsGrammar g) (rest0 out0 out1 out2 : Option (List ℕ))
    → Holds (machine_of limit past g first command) rest0 rest1 out0 out1 held b → TakesUnit limit past g b.past held rest1 rest2 unit bytes still → GrewShort out1 out2 (command.text b.past b.own unit bytes)
    → Ran (machine_of limit past g first command) rest0 rest2 out0 out2 (Err OutFault)
turned_out_fault {limit = limit} {past = past} {g = g} {b = b} {rest2 = rest2} {held = held} {bytes = bytes} {still = still} {unit = unit} first command laws rest0 out0 out1 out2 h n short =
    holds_out_fault (machine_laws limit past g first command laws) rest2 out2 n.read bytes still (command.text b.past b.own unit bytes) (left_by g command b unit bytes) h n.took n.parts n.some
    (λ more fits. whole_unit limit past g laws first command b bytes more unit (n.stands more fits)) (none_due limit past g first command laws b (held ++ n.read) n.prompt) short

-- no memory was found for it
pub turned_unwritten : {Z R U W E : Type 0} {limit : ℕ} {past : Fault R → Fault R} {g : Grammar Z R U} {b : Between Z W} {rest1 rest2 : Option (List ℕ)} {held bytes still : List ℕ} {unit : U} (first : Z) (command : Command Z R U W E) (laws : IsGrammar g) (rest0 out0 out1 : Option (List ℕ))
    → Holds (machine_of limit past g first command) rest0 rest1 out0 out1 held b → TakesUnit limit past g b.past held rest1 rest2 unit bytes still
    → Ran (machine_of limit past g first command) rest0 rest2 out0 out1 (Err NoMemory)
turned_unwritten {limit = limit} {past = past} {g = g} {b = b} {rest2 = rest2} {held = held} first command laws rest0 out0 out1 h n =
    holds_no_memory (machine_laws limit past g first command laws) rest2 n.read h n.took (none_due limit past g first command laws b (held ++ n.read) n.prompt)

-- the step where something else stands in front
meets_step : {Z R U W E : Type 0} {limit : ℕ} {past : Fault R → Fault R} {g : Grammar Z R U} (b : Between Z W) {rest1 rest2 : Option (List ℕ)} {held : List ℕ} {front : Front R U} (first : Z) (command : Command Z R U W E) (n : MeetsFront limit past g b.past held rest1 rest2 front) (more : List ℕ) → rest2 ≡ Some more
    → (machine_of limit past g first command).step b (held ++ n.read ++ more) ≡ step_by g command b.past b.own (held ++ n.read ++ more) front
meets_step {limit = limit} {past = past} {g = g} b {held = held} first command n more told =
    let v = held ++ n.read ++ more in
    ap (step_by g command b.past b.own v) (rest_none (g.rests b.past) v (front_within limit past g b.past v) (λ h. omega (arith, n.begun h, length-append (held ++ n.read) more)) ∙ n.ends more told)

-- the stream is finished or refused, and the last text was written
pub turned_ended : {Z R U W E : Type 0} {limit : ℕ} {past : Fault R → Fault R} {g : Grammar Z R U} {b : Between Z W} {rest1 rest2 : Option (List ℕ)} {held : List ℕ} {front : Front R U} (first : Z) (command : Command Z R U W E) (laws : IsGrammar g) (rest0 out0 out1 out2 : Option (List ℕ)) (close : Close E)
    → Holds (machine_of limit past g first command) rest0 rest1 out0 out1 held b → (n : MeetsFront limit past g b.past held rest1 rest2 front) → ((more : List ℕ) → rest2 ≡ Some more → step_by g command b.past b.own (held ++ n.read ++ more) front ≡ Ends close.ending close.last)
    → Appends out1 out2 close.last → Ran (machine_of limit past g first command) rest0 rest2 out0 out2 (Ok close.ending)
turned_ended {limit = limit} {past = past} {g = g} {b = b} {rest2 = rest2} {held = held} first command laws rest0 out0 out1 out2 close h n ends wrote =
    holds_ended (machine_laws limit past g first command laws) rest2 out2 n.read close.last close.ending h n.took (λ more told. meets_step b first command n more told ∙ ends more told) wrote

-- a write of the last text failed
pub turned_last_fault : {Z R U W E : Type 0} {limit : ℕ} {past : Fault R → Fault R} {g : Grammar Z R U} {b : Between Z W} {rest1 rest2 : Option (List ℕ)} {held : List ℕ} {front : Front R U} (first : Z) (command : Command Z R U W E) (laws : IsGrammar g) (rest0 out0 out1 out2 : Option (List ℕ)) (close : Close E)
    → Holds (machine_of limit past g first command) rest0 rest1 out0 out1 held b → (n : MeetsFront limit past g b.past held rest1 rest2 front) → ((more : List ℕ) → rest2 ≡ Some more → step_by g command b.past b.own (held ++ n.read ++ more) front ≡ Ends close.ending close.last)
    → GrewShort out1 out2 close.last → Ran (machine_of limit past g first command) rest0 rest2 out0 out2 (Err OutFault)
turned_last_fault {limit = limit} {past = past} {g = g} {b = b} {rest2 = rest2} {held = held} first command laws rest0 out0 out1 out2 close h n ends short =
    holds_last_fault (machine_laws limit past g first command laws) rest2 out2 n.read close.last close.ending h n.took (none_due limit past g first command laws b (held ++ n.read) n.prompt) (λ more told. meets_step b first command n more told ∙ ends more told) short

-- no memory was found for it
pub turned_last_unwritten : {Z R U W E : Type 0} {limit : ℕ} {past : Fault R → Fault R} {g : Grammar Z R U} {b : Between Z W} {rest1 rest2 : Option (List ℕ)} {held : List ℕ} {front : Front R U} (first : Z) (command : Command Z R U W E) (laws : IsGrammar g) (rest0 out0 out1 : Option (List ℕ))
    → Holds (machine_of limit past g first command) rest0 rest1 out0 out1 held b → MeetsFront limit past g b.past held rest1 rest2 front → Ran (machine_of limit past g first command) rest0 rest2 out0 out1 (Err NoMemory)
turned_last_unwritten {limit = limit} {past = past} {g = g} {b = b} {rest2 = rest2} {held = held} first command laws rest0 out0 out1 h n =
    holds_no_memory (machine_laws limit past g first command laws) rest2 n.read h n.took (none_due limit past g first command laws b (held ++ n.read) n.prompt)

-- the input is over before a unit: the step
pub rest_step : {Z R U W E : Type 0} (limit : ℕ) (past : Fault R → Fault R) (g : Grammar Z R U) (first : Z) (command : Command Z R U W E) (b : Between Z W) → g.rests b.past ≡ true
    → (machine_of limit past g first command).step b [] ≡ Ends (command.rested b.past b.own).ending (command.rested b.past b.own).last
rest_step limit past g first command b may = rw may refl

rests_step : {Z R U W E : Type 0} (b : Between Z W) {rest1 rest2 : Option (List ℕ)} {held : List ℕ} (limit : ℕ) (past : Fault R → Fault R) (g : Grammar Z R U) (first : Z) (command : Command Z R U W E) → RestsHere g b.past held rest1 rest2 → (more : List ℕ) → rest2 ≡ Some more
    → (machine_of limit past g first command).step b (held ++ [] ++ more) ≡ Ends (command.rested b.past b.own).ending (command.rested b.past b.own).last
rests_step b {rest2 = rest2} limit past g first command n more told =
    ap (λ l. (machine_of limit past g first command).step b (l ++ [] ++ more)) n.none ∙ ap (λ l. (machine_of limit past g first command).step b ([] ++ [] ++ l)) (nothing_more rest2 more n.at_end told) ∙ rest_step limit past g first command b n.may

-- nothing is held, and nothing was read
rests_due : {Z R U W E : Type 0} (b : Between Z W) {rest1 rest2 : Option (List ℕ)} {held : List ℕ} (limit : ℕ) (past : Fault R → Fault R) (g : Grammar Z R U) (first : Z) (command : Command Z R U W E) → RestsHere g b.past held rest1 rest2 → NoneDue (machine_of limit past g first command) b (held ++ [])
rests_due b {held = held} limit past g first command n long = absurd (omega (arith, long, length-append held [], ap (λ (l : List ℕ). length l) n.none))

pub turned_rested : {Z R U W E : Type 0} {g : Grammar Z R U} {b : Between Z W} {rest1 rest2 : Option (List ℕ)} {held : List ℕ} (limit : ℕ) (past : Fault R → Fault R) (first : Z) (command : Command Z R U W E) (laws : IsGrammar g) (rest0 out0 out1 out2 : Option (List ℕ))
    → Holds (machine_of limit past g first command) rest0 rest1 out0 out1 held b → RestsHere g b.past held rest1 rest2 → Appends out1 out2 (command.rested b.past b.own).last
    → Ran (machine_of limit past g first command) rest0 rest2 out0 out2 (Ok (command.rested b.past b.own).ending)
turned_rested {g = g} {b = b} {rest2 = rest2} limit past first command laws rest0 out0 out1 out2 h n wrote =
    holds_ended (machine_laws limit past g first command laws) rest2 out2 [] _ (command.rested b.past b.own).ending h n.took (rests_step b limit past g first command n) wrote

pub turned_rest_fault : {Z R U W E : Type 0} {g : Grammar Z R U} {b : Between Z W} {rest1 rest2 : Option (List ℕ)} {held : List ℕ} (limit : ℕ) (past : Fault R → Fault R) (first : Z) (command : Command Z R U W E) (laws : IsGrammar g) (rest0 out0 out1 out2 : Option (List ℕ))
    → Holds (machine_of limit past g first command) rest0 rest1 out0 out1 held b → RestsHere g b.past held rest1 rest2 → GrewShort out1 out2 (command.rested b.past b.own).last
    → Ran (machine_of limit past g first command) rest0 rest2 out0 out2 (Err OutFault)
turned_rest_fault {g = g} {b = b} {rest2 = rest2} limit past first command laws rest0 out0 out1 out2 h n short =
    holds_last_fault (machine_laws limit past g first command laws) rest2 out2 [] _ (command.rested b.past b.own).ending h n.took (rests_due b limit past g first command n) (rests_step b limit past g first command n) short

pub turned_rest_unwritten : {Z R U W E : Type 0} {g : Grammar Z R U} {b : Between Z W} {rest1 rest2 : Option (List ℕ)} {held : List ℕ} (limit : ℕ) (past : Fault R → Fault R) (first : Z) (command : Command Z R U W E) (laws : IsGrammar g) (rest0 out0 out1 : Option (List ℕ))
    → Holds (machine_of limit past g first command) rest0 rest1 out0 out1 held b → RestsHere g b.past held rest1 rest2 → Ran (machine_of limit past g first command) rest0 rest2 out0 out1 (Err NoMemory)
turned_rest_unwritten {g = g} {b = b} {rest2 = rest2} limit past first command laws rest0 out0 out1 h n =
    holds_no_memory (machine_laws limit past g first command laws) rest2 [] h n.took (rests_due b limit past g first command n)

-- a read failed
pub turned_lost : {Z R U W E : Type 0} {g : Grammar Z R U} {b : Between Z W} {rest1 rest2 : Option (List ℕ)} {held : List ℕ} {top : ℕ} (limit : ℕ) (past : Fault R → Fault R) (first : Z) (command : Command Z R U W E) (laws : IsGrammar g) (rest0 out0 out1 : Option (List ℕ))
    → Holds (machine_of limit past g first command) rest0 rest1 out0 out1 held b → Lost g b.past held rest1 rest2 top → Ran (machine_of limit past g first command) rest0 rest2 out0 out1 (Err ReadFault)
turned_lost {g = g} {b = b} {rest2 = rest2} {held = held} limit past first command laws rest0 out0 out1 h n = holds_lost (machine_laws limit past g first command laws) rest2 n.read h n.took (none_whole limit past g first command laws b (held ++ n.read) n.waits)

-- no memory was found
pub turned_no_memory : {Z R U W E : Type 0} {g : Grammar Z R U} {b : Between Z W} {rest1 rest2 : Option (List ℕ)} {held : List ℕ} {top : ℕ} (limit : ℕ) (past : Fault R → Fault R) (first : Z) (command : Command Z R U W E) (laws : IsGrammar g) (rest0 out0 out1 : Option (List ℕ))
    → Holds (machine_of limit past g first command) rest0 rest1 out0 out1 held b → Due g b.past held rest1 rest2 top → Ran (machine_of limit past g first command) rest0 rest2 out0 out1 (Err NoMemory)
turned_no_memory {g = g} {b = b} {rest2 = rest2} {held = held} limit past first command laws rest0 out0 out1 h n = holds_no_memory (machine_laws limit past g first command laws) rest2 n.read h n.took (none_due limit past g first command laws b (held ++ n.read) n.prompt)
