-- What the program replies to its words and its input, and what of it stands after a status.
use Rattle.std.specs.Prelude.{◌≡◌, ◌⊎◌, ℕ, List, [], Option, Some, None, Result, Ok, Err}
use Rattle.std.specs.Io.KnownBytes.{Appends, Consumes, Keeps}
use Rattle.vc2_io.specs.Outside.{IsPrefix, IsProperPrefix, GrewShort}
use Rattle.run_theory.specs.Walk.{Answer, out_of, IsPrompt}
use Rattle.channel_schedule.specs.declared.schedule.Outcome.{Outcome}
use Rattle.channel_schedule.specs.declared.schedule.Outcome.TheVariants as outcomes
use Rattle.vc2_words.specs.declared.keys.WordFault.{WordFault}
use Rattle.vc2_words.specs.declared.words.TrialPart.{TrialPart}
use Rattle.vc2_words.specs.Settings.{Asked}
use Rattle.vc2_words.specs.Commands.{AskedCommand, header, trial}
use Rattle.run_theory.specs.Runs.{Change, HasNoNewFault, HasFailed}
use Rattle.vc2_cli.specs.declared.status.ScheduleFault.{ScheduleFault}
use Rattle.vc2_cli.specs.declared.status.ScheduleFault.TheVariants.{Late, Overfull}
use Rattle.vc2_cli.specs.declared.status.Status.{Status}
use Rattle.vc2_cli.specs.declared.status.Status.TheVariants as status
use Rattle.vc2_cli.specs.declared.status.Note.{Note}
use Rattle.vc2_cli.specs.declared.status.Note.TheVariants as notes
use Rattle.vc2_cli.specs.declared.status.Ending.{Ending}
use Rattle.vc2_cli.specs.declared.status.Ending.TheVariants as ending
use Rattle.vc2_cli.specs.Texts.{refusal_line, usage_line, decoded_line, framed_line, schedule_line, fault_line}
use Rattle.vc2_cli.specs.Running.{Running, running_of}
use Rattle.vc2_cli.specs.Words.{words_ask}

-- a status with its texts for `out` and `note`, and what is left of the input where the status is `Done` or `Schedule`
pub record Reply : Type 0 where
  pub status : Status
  pub rest : List ℕ
  pub out : List ℕ
  pub note : List ℕ

-- why a schedule does not run
abbrev pub fault_of : Outcome → Option ScheduleFault
fault_of outcomes.Runs = None
fault_of (outcomes.Late slot have need) = Some (Late slot have need)
fault_of (outcomes.Overfull slot fill size) = Some (Overfull slot fill size)

-- the status of a replayed schedule
abbrev pub schedule_status : Option ScheduleFault → Status
schedule_status None = status.Done
schedule_status (Some fault) = status.Schedule fault

-- and its note, a line where it doesn't run
abbrev pub schedule_note : Option ScheduleFault → List ℕ
schedule_note None = []
schedule_note (Some fault) = fault_line fault

-- the status of an ending
abbrev pub status_of : Ending → Status
status_of (ending.Done note) = status.Done
status_of (ending.Scheduled outcome) = schedule_status (fault_of outcome)
status_of (ending.Refused refusal) = status.Refused refusal

-- what is told of a command that is done
abbrev pub note_line : Note → List ℕ
note_line notes.Nothing = []
note_line (notes.Decoded pictures bytes) = decoded_line pictures bytes
note_line (notes.Framed count bytes) = framed_line count bytes
note_line (notes.Encoded schedule) = schedule_line schedule

-- the note of an ending
abbrev pub note_of : Ending → List ℕ
note_of (ending.Done note) = note_line note
note_of (ending.Scheduled outcome) = schedule_note (fault_of outcome)
note_of (ending.Refused refusal) = refusal_line refusal

-- the reply by a run's answer, of a command that leaves so much of its input
abbrev pub reply_of : List ℕ → Answer Ending → Reply
reply_of left answer = record { status = status_of answer.ending; rest = left; out = out_of answer; note = note_of answer.ending }

-- the reply to words that are refused
abbrev pub usage_reply : WordFault → List ℕ → Reply
usage_reply fault input = record { status = status.Usage fault; rest = input; out = []; note = usage_line fault }

-- the reply by what a command comes to
abbrev pub reply_by : Running → List ℕ → Reply
reply_by running input = reply_of (running.rest input) (running.answer input)

-- The reply to a command, or to words that are refused.
abbrev pub command_reply : Result AskedCommand WordFault → List ℕ → Reply
command_reply (Err fault) input = usage_reply fault input
command_reply (Ok asked) input = reply_by (running_of asked) input

-- the text for `out` that is due once these bytes were taken
abbrev pub command_due : Result AskedCommand WordFault → List ℕ → List ℕ
command_due (Err fault) taken = []
command_due (Ok asked) taken = (running_of asked).due taken

-- the same by the words
abbrev pub reply_to : List (List ℕ) → List ℕ → Reply
reply_to words input = command_reply (words_ask words) input

-- what these words owe for the bytes that were taken
abbrev pub due_to : List (List ℕ) → List ℕ → List ℕ
due_to words taken = command_due (words_ask words) taken

-- a status that is told once all of the input that the command reads was read
abbrev pub ReadsAll : Status → Type 0
ReadsAll status.Done = Unit {0}
ReadsAll (status.Schedule fault) = Unit {0}
ReadsAll other = ⊥

-- The status is the reply's, or something outside failed.
abbrev pub IsStatusOf : Reply → Status → Type 0
IsStatusOf reply status.ReadFault = Unit {0}
IsStatusOf reply status.OutFault = Unit {0}
IsStatusOf reply status.NoteFault = Unit {0}
IsStatusOf reply status.NoMemory = Unit {0}
IsStatusOf reply other = other ≡ reply.status

-- A write of the reply's text failed: a part of it went out, and not all.
abbrev pub StopsShort : Reply → (List ℕ → List ℕ) → List ℕ → Option (List ℕ) → Option (List ℕ) → Option (List ℕ) → Type 0
StopsShort reply due input rest out0 out1 = (taken : List ℕ) × Consumes (Some input) rest taken
    × (text : List ℕ) × Appends out0 out1 text × IsProperPrefix text reply.out × IsPrompt due taken text

-- No memory was found: a part of the reply's text went out, or all.
abbrev pub Stops : Reply → (List ℕ → List ℕ) → List ℕ → Option (List ℕ) → Option (List ℕ) → Option (List ℕ) → Type 0
Stops reply due input rest out0 out1 = (taken : List ℕ) × Consumes (Some input) rest taken
    × (text : List ℕ) × Appends out0 out1 text × IsPrefix text reply.out × IsPrompt due taken text

-- A read failed: all that was due went out.
abbrev pub Breaks : (List ℕ → List ℕ) → List ℕ → Option (List ℕ) → Option (List ℕ) → Option (List ℕ) → Type 0
Breaks due input rest out0 out1 = (taken : List ℕ) × Consumes (Some input) rest taken × Appends out0 out1 (due taken)

-- A fault is answered only where its object's count rose; every other count stands still.
abbrev pub HasCauses : Change → Change → Change → Status → Type 0
HasCauses src out note status.ReadFault = HasFailed src × HasNoNewFault out × HasNoNewFault note
HasCauses src out note status.OutFault = HasNoNewFault src × HasFailed out × HasNoNewFault note
HasCauses src out note status.NoteFault = HasNoNewFault src × HasNoNewFault out × HasFailed note
HasCauses src out note other = HasNoNewFault src × HasNoNewFault out × HasNoNewFault note

-- Words with this fault: the usage line went to `note`, or a part of it, or there was no memory for it.
abbrev pub AnswersUsage : WordFault → Option (List ℕ) → Option (List ℕ) → Status → Type 0
AnswersUsage fault note0 note1 (status.Usage told) = (told ≡ fault) × Appends note0 note1 (usage_line fault)
AnswersUsage fault note0 note1 status.NoteFault = GrewShort note0 note1 (usage_line fault)
AnswersUsage fault note0 note1 status.NoMemory = Keeps note0 note1
AnswersUsage fault note0 note1 other = ⊥

-- ---- commands of which more is said

-- A trial: its text was written whole, or a part of it, or there was no memory, and then nothing of it or all. It has no
-- note, and no read of it fails.
abbrev pub AnswersTrial : List ℕ → Option (List ℕ) → Option (List ℕ) → Option (List ℕ) → Option (List ℕ) → Status → Type 0
AnswersTrial text out0 out1 note0 note1 status.Done = Appends out0 out1 text × Appends note0 note1 []
AnswersTrial text out0 out1 note0 note1 status.OutFault = GrewShort out0 out1 text × Keeps note0 note1
AnswersTrial text out0 out1 note0 note1 status.NoMemory = ((out1 ≡ out0) ⊎ Appends out0 out1 text) × Keeps note0 note1
AnswersTrial text out0 out1 note0 note1 other = ⊥

-- where these words ask for a trial
abbrev pub IfTrial : Result AskedCommand WordFault → (Asked → TrialPart → Type 0) → Type 0
IfTrial (Ok (trial s part)) P = P s part
IfTrial other P = Unit {0}

-- where they ask for the first unit
abbrev pub IfHeader : Result AskedCommand WordFault → Type 0 → Type 0
IfHeader (Ok header) P = P
IfHeader other P = Unit {0}
