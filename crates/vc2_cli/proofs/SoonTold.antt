-- How soon a run is over, by its status.
use Rattle.std.proofs.Common.{◌≡◌, ℕ, Bool, List, Option, None, Some, IfSome, Result, Ok, Err, refl, sym, subst, inl}
use Rattle.std.specs.Io.KnownBytes.{Consumes}
use Rattle.run_theory.specs.declared.Halt.{Halt}
use Rattle.run_theory.specs.declared.Halt.TheVariants.{ReadFault, OutFault, NoMemory}
use Rattle.channel_schedule.specs.declared.schedule.Outcome.TheVariants as outcomes
use Rattle.vc2_words.specs.declared.keys.WordFault.{WordFault}
use Rattle.vc2_words.specs.declared.words.Command.{Command}
use Rattle.vc2_words.specs.Commands.{AskedCommand}
use Rattle.stream_rows.specs.declared.reason.Reason.{Reason}
use Rattle.vc2_cli.specs.declared.status.Status.{Status}
use Rattle.vc2_cli.specs.declared.status.Status.TheVariants as st
use Rattle.vc2_cli.specs.declared.status.Ending.{Ending}
use Rattle.vc2_cli.specs.declared.status.Ending.TheVariants.{Done, Scheduled, Refused}
use Rattle.vc2_cli.specs.Words.{seen_words}
use Rattle.vc2_cli.specs.Running.{Running, Stopping}
use Rattle.vc2_cli.specs.RunsAs.{GoesOn}
use Rattle.vc2_cli.specs.Reply.{command_reply, status_of, reply_by}
use Rattle.vc2_cli.specs.Settled.{Concludes, status_of_halt}
use Rattle.vc2_cli.specs.Endings.{MayEndBy}
use Rattle.vc2_cli.specs.Soon.{IsOpen, StopsSoon, IfReads}
use Rattle.vc2_cli.proofs.Parts.{if_told}
use Rattle.vc2_cli.proofs.Settling.{not_outside}

-- the status of an ending that may change may change
status_open : (is_open : Reason → Bool) (ending : Ending) → MayEndBy is_open ending → IsOpen is_open (status_of ending)
status_open is_open (Done note) goes = tt
status_open is_open (Scheduled outcomes.Runs) goes = tt
status_open is_open (Scheduled (outcomes.Late slot have need)) goes = tt
status_open is_open (Scheduled (outcomes.Overfull slot fill size)) goes = tt
status_open is_open (Refused refusal) goes = goes

halt_is : (halt : Halt) → st.ReadFault ≡ status_of_halt halt → halt ≡ ReadFault
halt_is ReadFault e = refl
halt_is OutFault e = absurd cc
halt_is NoMemory e = absurd cc

-- a failed read is told of nothing else
read_failed : (note0 note1 : Option (List ℕ)) (outcome : Result Ending Halt) → Concludes outcome note0 note1 st.ReadFault → outcome ≡ Err ReadFault
read_failed note0 note1 (Ok ending) ends = not_outside ending _ (inl ends.0)
read_failed note0 note1 (Err halt) ends = let at : halt ≡ ReadFault = halt_is halt ends.0 in cc

-- What was told of a command, by its run.
told_soon : (running : Running) (stops : Stopping) (rest0 rest1 note0 note1 : Option (List ℕ)) (input : List ℕ) (outcome : Result Ending Halt) (status : Status) → rest0 ≡ Some input → GoesOn running.answer stops rest0 rest1 outcome → Concludes outcome note0 note1 status
    → StopsSoon (reply_by running) stops input rest1 status
told_soon running stops rest0 rest1 note0 note1 input outcome status e s ends = (
  s.0,
  subst (λ r. Consumes r rest1 s.0) e s.1,
  status_open stops.is_open _ s.2,
  (λ each is. status_open stops.is_open _ (s.3 each (read_failed note0 note1 outcome (subst (Concludes outcome note0 note1) is ends)))),
)

if_some : (stops : Option Stopping) (P Q : Stopping → Type 0) → ((s : Stopping) → P s → Q s) → IfSome stops P → IfSome stops Q
if_some None P Q f h = tt
if_some (Some s) P Q f h = f s h

pub reads_soon : (running : Running) (rest0 rest1 note0 note1 : Option (List ℕ)) (input : List ℕ) (outcome : Result Ending Halt) (status : Status) → rest0 ≡ Some input → IfSome running.stops (λ stops. GoesOn running.answer stops rest0 rest1 outcome) → Concludes outcome note0 note1 status
    → IfSome running.stops (λ stops. StopsSoon (reply_by running) stops input rest1 status)
reads_soon running rest0 rest1 note0 note1 input outcome status e soon ends =
    if_some running.stops _ _ (λ stops s. told_soon running stops rest0 rest1 note0 note1 input outcome status e s ends) soon

-- the same command by another name
pub reads_at : (P : Result AskedCommand WordFault → Stopping → Type 0) (command is : Result Command WordFault) → command ≡ is → IfReads (seen_words is) (P (seen_words is)) → IfReads (seen_words command) (P (seen_words command))
reads_at P command is same holds = subst (λ (r : Result Command WordFault). IfReads (seen_words r) (P (seen_words r))) (sym same) holds

-- and by the words
pub reads_by : (known rest : Option (List ℕ)) (status : Status) (command other : Result AskedCommand WordFault) → command ≡ other → ((input : List ℕ) → known ≡ Some input → IfReads command (λ stops. StopsSoon (command_reply command) stops input rest status))
    → IfSome known (λ input. IfReads other (λ stops. StopsSoon (command_reply other) stops input rest status))
reads_by known rest status command other same holds =
    subst (λ (r : Result AskedCommand WordFault). IfSome known (λ input. IfReads r (λ stops. StopsSoon (command_reply r) stops input rest status))) same
    (if_told known _ holds)
