-- What the run of any command leaves, by its line of the table.
use Rattle.std.specs.Prelude.{◌≡◌, ◌+◌, ℕ, true, List, Option, Some, IfSome, Result, Ok, Err}
use Rattle.std.specs.Io.KnownBytes.{Appends, Consumes}
use Rattle.vc2_io.specs.declared.TheConstants.{INPUT_LIMIT}
use Rattle.run_theory.specs.Walk.{Answer, out_of, all_but}
use Rattle.run_theory.specs.Ran.{TakesAtMost, HaltHasCause}
use Rattle.run_theory.specs.Runs.{Change, HasNoNewFault, Closes}
use Rattle.run_theory.specs.declared.Halt.{Halt}
use Rattle.run_theory.specs.declared.Halt.TheVariants.{ReadFault, OutFault, NoMemory}
use Rattle.vc2_words.specs.Commands.{AskedCommand, header, trial}
use Rattle.vc2_cli.specs.declared.status.Ending.{Ending}
use Rattle.vc2_cli.specs.declared.status.Ending.TheVariants.{Done}
use Rattle.vc2_cli.specs.declared.status.Note.TheVariants.{Nothing}
use Rattle.vc2_cli.specs.Endings.{MayEndBy}
use Rattle.vc2_cli.specs.Trial.{trial_text}
use Rattle.vc2_cli.specs.Running.{Running, Stopping, running_of}
use Rattle.vc2_cli.specs.Reply.{Breaks, Stops, StopsShort, ReadsAll, reply_by, status_of}

-- How a command came out over an input that the source tells. At an ending, its answer's, all of its text was written, and
-- where all was read so much is left; and should there be no memory for the note, that stands as for a halt.
abbrev pub ComesOut : Running → List ℕ → Option (List ℕ) → Option (List ℕ) → Option (List ℕ) → Result Ending Halt → Type 0
ComesOut running input rest out0 out1 (Ok ending) = (ending ≡ (running.answer input).ending)
    × Appends out0 out1 (out_of (running.answer input))
    × (ReadsAll (status_of ending) → (left : List ℕ) → rest ≡ Some left → left ≡ running.rest input)
    × Stops (reply_by running input) running.due input rest out0 out1
ComesOut running input rest out0 out1 (Err ReadFault) = Breaks running.due input rest out0 out1
ComesOut running input rest out0 out1 (Err OutFault) = StopsShort (reply_by running input) running.due input rest out0 out1
ComesOut running input rest out0 out1 (Err NoMemory) = Stops (reply_by running input) running.due input rest out0 out1

-- More bytes may still change what those come to that were taken, without the last ones; and at a failed read, where each
-- read is judged, with all.
abbrev pub GoesOn : (List ℕ → Answer Ending) → Stopping → Option (List ℕ) → Option (List ℕ) → Result Ending Halt → Type 0
GoesOn answer stops rest0 rest1 result = (taken : List ℕ) × Consumes rest0 rest1 taken
    × MayEndBy stops.is_open (answer (all_but stops.most taken)).ending
    × (stops.each ≡ true → result ≡ Err ReadFault → MayEndBy stops.is_open (answer taken).ending)

-- what the run of a command leaves
pub record RunsAs (running : Running) (src out : Change) (result : Result Ending Halt) : Type 0 where
  pub comes : (input : List ℕ) → src.was ≡ Some input → ComesOut running input src.is out.was out.is result
  pub limit : TakesAtMost (INPUT_LIMIT + 1) src.was src.is
  pub cause : HaltHasCause src.faults_were src.faults_are out.faults_were out.faults_are result
  pub soon : IfSome running.stops (λ stops. GoesOn running.answer stops src.was src.is result)

-- what more is said of two commands
abbrev pub SaysMore : AskedCommand → Change → Change → Result Ending Halt → Type 0
SaysMore (trial s part) src out result =
    Closes (Done Nothing) (trial_text s part) out.was out.is result × (src.is ≡ src.was) × HasNoNewFault src
SaysMore header src out result = TakesAtMost 250 src.was src.is
SaysMore other src out result = Unit {0}

-- a command was done
pub record Does (asked : AskedCommand) (src out : Change) (result : Result Ending Halt) : Type 0 where
  pub runs : RunsAs (running_of asked) src out result
  pub more : SaysMore asked src out result
