-- A command's run by its line of the table, and what more is said of two.
use Rattle.std.proofs.Common.{◌≡◌, ◌+◌, ℕ, List, [], Option, Some, Result, Ok, IfOk, refl, arith}
use Rattle.vc2_io.specs.declared.TheConstants.{INPUT_LIMIT}
use Rattle.run_theory.specs.Walk.{Machine, answer_to, IsMachine}
use Rattle.run_theory.specs.Ran.{Ran, TakesAtMost, HaltHasCause}
use Rattle.run_theory.specs.Runs.{Change, HasNoNewFault, Runs, Closes}
use Rattle.run_theory.specs.declared.Halt.{Halt}
use Rattle.run_theory.proofs.Closing.{takes_none, cause_then}
use Rattle.unit_reader.specs.Soon.{Soon}
use Rattle.raw_video.specs.PictureSoon.{PicturesSoon}
use Rattle.vc2_words.specs.declared.words.TrialPart.{TrialPart}
use Rattle.vc2_words.specs.Settings.{Asked}
use Rattle.vc2_words.specs.Commands.{AskedCommand, chain, header, decode, proxy, check, encode, trial, weave, split, frames, cut}
use Rattle.vc2_cli.specs.declared.status.Ending.{Ending}
use Rattle.vc2_cli.specs.declared.status.Ending.TheVariants.{Done}
use Rattle.vc2_cli.specs.declared.status.Note.TheVariants.{Nothing}
use Rattle.vc2_cli.specs.declared.status.Status.{Status}
use Rattle.vc2_cli.specs.Endings.{IsDone, MayEndOtherwise, MayEndLater}
use Rattle.vc2_cli.specs.First.{header_machine, behind_first}
use Rattle.vc2_cli.specs.Trial.{trial_text}
use Rattle.vc2_cli.specs.Running.{Stopping, running, by_reads, by_pieces, over_units, over_video, trial_running}
use Rattle.vc2_cli.specs.RunsAs.{GoesOn, RunsAs, SaysMore}
use Rattle.vc2_cli.specs.Reply.{AnswersTrial, IfTrial, IfHeader, ReadsAll, status_of}
use Rattle.vc2_cli.specs.Settled.{Concludes}
use Rattle.vc2_cli.proofs.HeaderRuns.{header_laws}
use Rattle.vc2_cli.proofs.Settling.{comes_by, at_end, trial_comes, trial_told}

-- units are judged after each read
pub goes_on : {Z : Type 0} (machine : Machine Z Ending) (most : ℕ) (rest0 rest1 : Option (List ℕ)) (result : Result Ending Halt) → Soon MayEndOtherwise machine most rest0 rest1 result → GoesOn (answer_to machine) (by_reads most) rest0 rest1 result
goes_on machine most rest0 rest1 result s = (s.taken, s.took, s.goes, λ each. s.lost)

-- raw video after each piece
goes_by_pieces : {Z : Type 0} (machine : Machine Z Ending) (rest0 rest1 : Option (List ℕ)) (result : Result Ending Halt) → PicturesSoon MayEndLater machine rest0 rest1 → GoesOn (answer_to machine) (by_pieces 4096) rest0 rest1 result
goes_by_pieces machine rest0 rest1 result s = (s.taken, s.took, s.goes, λ each. absurd cc)

-- a command that reads to the end
to_end : {Z : Type 0} (machine : Machine Z Ending) (laws : IsMachine machine) (stops : Stopping) (src out : Change) (result : Result Ending Halt) → Runs machine IsDone src out result
    → GoesOn (answer_to machine) stops src.was src.is result → RunsAs (running machine (λ input. []) stops) src out result
to_end machine laws stops src out result r soon = record {
  comes = λ input e. comes_by machine laws (λ i. []) stops src.was src.is out.was out.is input result e (at_end src.is result r.end) r.ran;
  limit = r.limit;
  cause = r.cause;
  soon = soon;
}

pub units_run : {Z : Type 0} (machine : Machine Z Ending) (laws : IsMachine machine) (src out : Change) (result : Result Ending Halt) → Runs machine IsDone src out result → Soon MayEndOtherwise machine 4096 src.was src.is result
    → RunsAs (over_units machine) src out result
units_run machine laws src out result r soon = to_end machine laws (by_reads 4096) src out result r (goes_on machine 4096 src.was src.is result soon)

pub video_runs : {Z : Type 0} (machine : Machine Z Ending) (laws : IsMachine machine) (src out : Change) (result : Result Ending Halt) → Runs machine IsDone src out result → PicturesSoon MayEndLater machine src.was src.is
    → RunsAs (over_video machine) src out result
video_runs machine laws src out result r soon = to_end machine laws (by_pieces 4096) src out result r (goes_by_pieces machine src.was src.is result soon)

-- the first unit
few_enough : (rest0 rest1 : Option (List ℕ)) → TakesAtMost 250 rest0 rest1 → TakesAtMost (INPUT_LIMIT + 1) rest0 rest1
few_enough rest0 rest1 few = (few.0, omega (arith, few.1), few.2)

pub header_runs : (src out : Change) (result : Result Ending Halt) → ((input : List ℕ) → src.was ≡ Some input → IfOk result (λ ending. ReadsAll (status_of ending) → (more : List ℕ) → src.is ≡ Some more → more ≡ behind_first input))
    → TakesAtMost 250 src.was src.is → Ran header_machine src.was src.is out.was out.is result → HaltHasCause src.faults_were src.faults_are out.faults_were out.faults_are result
    → Soon MayEndOtherwise header_machine 1 src.was src.is result → RunsAs (running header_machine behind_first (by_reads 1)) src out result
header_runs src out result left few ran cause soon = record {
  comes = λ input e. comes_by header_machine header_laws behind_first (by_reads 1) src.was src.is out.was out.is input result e (left input e) ran;
  limit = few_enough src.was src.is few;
  cause = cause;
  soon = goes_on header_machine 1 src.was src.is result soon;
}

-- a trial, of a source that stands still
pub trial_runs : (s : Asked) (part : TrialPart) (rest : Option (List ℕ)) (faults : ℕ) (out : Change) (result : Result Ending Halt) → Closes (Done Nothing) (trial_text s part) out.was out.is result
    → HaltHasCause 0 0 out.faults_were out.faults_are result → RunsAs (trial_running s part) (record { was = rest; is = rest; faults_were = faults; faults_are = faults }) out result
trial_runs s part rest faults out result closes cause = record {
  comes = λ input e. trial_comes s part rest out.was out.is input result e closes;
  limit = takes_none rest;
  cause = cause_then faults faults out.faults_were out.faults_were out.faults_are result refl refl cause;
  soon = tt;
}

-- ---- what more is said

pub if_trial : (asked : AskedCommand) (src out : Change) (note0 note1 : Option (List ℕ)) (result : Result Ending Halt) (status : Status) → SaysMore asked src out result → Concludes result note0 note1 status
    → IfTrial (Ok asked) (λ s part. AnswersTrial (trial_text s part) out.was out.is note0 note1 status × (src.is ≡ src.was) × HasNoNewFault src)
if_trial (trial s part) src out note0 note1 result status more told = (trial_told (trial_text s part) out.was out.is note0 note1 result status more.0 told, more.1, more.2)
if_trial chain src out note0 note1 result status more told = tt
if_trial header src out note0 note1 result status more told = tt
if_trial decode src out note0 note1 result status more told = tt
if_trial (proxy level) src out note0 note1 result status more told = tt
if_trial (check schedule) src out note0 note1 result status more told = tt
if_trial (encode settings) src out note0 note1 result status more told = tt
if_trial (weave video) src out note0 note1 result status more told = tt
if_trial (split video) src out note0 note1 result status more told = tt
if_trial (frames top) src out note0 note1 result status more told = tt
if_trial (cut settings) src out note0 note1 result status more told = tt

pub if_header : (asked : AskedCommand) (src out : Change) (result : Result Ending Halt) → SaysMore asked src out result → IfHeader (Ok asked) (TakesAtMost 250 src.was src.is)
if_header header src out result more = more
if_header chain src out result more = tt
if_header decode src out result more = tt
if_header (proxy level) src out result more = tt
if_header (check schedule) src out result more = tt
if_header (encode settings) src out result more = tt
if_header (trial s part) src out result more = tt
if_header (weave video) src out result more = tt
if_header (split video) src out result more = tt
if_header (frames top) src out result more = tt
if_header (cut settings) src out result more = tt
