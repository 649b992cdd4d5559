-- How soon a run is over behind a refusal, by its status.
use Rattle.std.specs.Prelude.{◌≡◌, ℕ, Bool, true, List, Option, Some, IfSome, Result, Ok, Err}
use Rattle.std.specs.Io.KnownBytes.{Consumes}
use Rattle.stream_rows.specs.declared.reason.Reason.{Reason}
use Rattle.vc2_words.specs.declared.keys.WordFault.{WordFault}
use Rattle.vc2_words.specs.Commands.{AskedCommand}
use Rattle.vc2_cli.specs.declared.status.Status.{Status}
use Rattle.vc2_cli.specs.declared.status.Status.TheVariants as status
use Rattle.vc2_cli.specs.Reply.{Reply}
use Rattle.vc2_cli.specs.Running.{Stopping, running_of}
use Rattle.run_theory.specs.Walk.{all_but}

-- More bytes may still change this status: it is no refusal, or one for a reason that is open.
abbrev pub IsOpen : (Reason → Bool) → Status → Type 0
IsOpen is_open (status.Refused refusal) = is_open refusal.reason ≡ true
IsOpen is_open other = Unit {0}

-- The run took these bytes. As an input of their own they are not refused without the last ones, of which there are
-- at most so many, unless for an open reason; and where a read failed and each read is judged, they are not refused at all,
-- unless so.
abbrev pub StopsSoon : (List ℕ → Reply) → Stopping → List ℕ → Option (List ℕ) → Status → Type 0
StopsSoon reply stops input rest told = (taken : List ℕ) × Consumes (Some input) rest taken
    × IsOpen stops.is_open (reply (all_but stops.most taken)).status
    × (stops.each ≡ true → told ≡ status.ReadFault → IsOpen stops.is_open (reply taken).status)

-- where words ask for a command that reads, and how soon it is over
abbrev pub IfReads : Result AskedCommand WordFault → (Stopping → Type 0) → Type 0
IfReads (Ok asked) P = IfSome (running_of asked).stops P
IfReads (Err fault) P = Unit {0}
