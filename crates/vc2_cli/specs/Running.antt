-- The one table of the commands: what each comes to, with no word of what its machine keeps between units.
use Rattle.std.specs.Prelude.{ℕ, Bool, true, false, List, [], Option, Some, None}
use Rattle.vc2_io.specs.declared.TheConstants.{READ_SIZE}
use Rattle.run_theory.specs.Walk.{Machine, Answer, answer_to, due}
use Rattle.vc2_words.specs.declared.words.TrialPart.{TrialPart}
use Rattle.vc2_words.specs.Settings.{Asked}
use Rattle.vc2_words.specs.Commands.{AskedCommand, chain, header, decode, proxy, check, encode, trial, weave, split, frames, cut}
use Rattle.stream_rows.specs.declared.reason.Reason.{Reason}
use Rattle.stream_rows.specs.Units.{is_truncated}
use Rattle.vc2_cli.specs.Endings.{is_unfinished}
use Rattle.vc2_cli.specs.declared.status.Ending.{Ending}
use Rattle.vc2_cli.specs.declared.status.Ending.TheVariants.{Done}
use Rattle.vc2_cli.specs.declared.status.Note.TheVariants.{Nothing}
use Rattle.vc2_cli.specs.ChainLines.{chain_machine}
use Rattle.vc2_cli.specs.First.{header_machine, behind_first}
use Rattle.vc2_cli.specs.Decode.{decode_machine, check_machine}
use Rattle.vc2_cli.specs.Proxy.{proxy_machine}
use Rattle.vc2_cli.specs.Scheduled.{replay_machine}
use Rattle.vc2_cli.specs.Encode.{encode_machine}
use Rattle.vc2_cli.specs.Trial.{trial_text}
use Rattle.vc2_cli.specs.Weave.{order_of, weave_command_machine, split_command_machine}
use Rattle.vc2_cli.specs.Frames.{frames_machine}
use Rattle.vc2_cli.specs.Cut.{cut_command_machine}

-- How soon a run is over behind a refusal: the most bytes that are read before they are judged, the reasons of refusals that
-- more bytes may still change, and whether what each read brings is judged before the next one.
pub record Stopping : Type 0 where
  pub most : ℕ
  pub is_open : Reason → Bool
  pub each : Bool

-- what a command answers to an input, the text that is due once bytes were taken, what it leaves of the input where it
-- ends well, and how soon it is over, where it reads
pub record Running : Type 0 where
  pub answer : List ℕ → Answer Ending
  pub due : List ℕ → List ℕ
  pub rest : List ℕ → List ℕ
  pub stops : Option Stopping

-- the answers of a machine
abbrev pub running : {Z : Type 0} → Machine Z Ending → (List ℕ → List ℕ) → Stopping → Running
running machine rest stops = record { answer = answer_to machine; due = due machine; rest = rest; stops = Some stops }

-- units are judged after each read of so many bytes
abbrev pub by_reads : ℕ → Stopping
by_reads most = record { most = most; is_open = is_truncated; each = true }

-- raw video once a piece of so many bytes is full, however many reads that takes
abbrev pub by_pieces : ℕ → Stopping
by_pieces most = record { most = most; is_open = is_unfinished; each = false }

-- a command that reads units to the end, and one that reads raw video to the end
abbrev pub over_units : {Z : Type 0} → Machine Z Ending → Running
over_units machine = running machine (λ input. []) (by_reads READ_SIZE)

abbrev pub over_video : {Z : Type 0} → Machine Z Ending → Running
over_video machine = running machine (λ input. []) (by_pieces READ_SIZE)

-- a trial reads nothing
abbrev pub trial_running : Asked → TrialPart → Running
trial_running s part = record {
  answer = λ input. record { ending = Done Nothing; text = []; last = trial_text s part };
  due = λ taken. [];
  rest = λ input. input;
  stops = None;
}

-- the table
abbrev pub running_of : AskedCommand → Running
running_of chain = over_units chain_machine
running_of header = running header_machine behind_first (by_reads 1)
running_of decode = over_units decode_machine
running_of (proxy level) = over_units (proxy_machine level)
running_of (check None) = over_units check_machine
running_of (check (Some schedule)) = over_units (replay_machine schedule)
running_of (encode settings) = over_video (encode_machine settings)
running_of (trial settings part) = trial_running settings part
running_of (frames top) = over_units (frames_machine (order_of top))
running_of (weave video) = over_video (weave_command_machine video)
running_of (split video) = over_video (split_command_machine video)
running_of (cut settings) = over_units (cut_command_machine settings)
