-- How a command ends: three ways, whatever the command is. Which are of an input that was read whole, and which may change.
use Rattle.std.specs.Prelude.{◌≡◌, Bool, true, false, ℕ, []}
use Rattle.run_theory.specs.Fronts.{Close}
use Rattle.stream_rows.specs.Units.{is_truncated}
use Rattle.stream_rows.specs.declared.reason.Reason.{Reason}
use Rattle.stream_rows.specs.declared.reason.Reason.TheVariants.{HalfFrame, RawTruncated}
use Rattle.channel_schedule.specs.declared.schedule.Outcome.{Outcome}
use Rattle.vc2_cli.specs.Texts.{accepted_line, replayed_lines}
use Rattle.vc2_cli.specs.declared.status.Note.TheVariants.{Nothing}
use Rattle.vc2_cli.specs.declared.status.Ending.{Ending}
use Rattle.vc2_cli.specs.declared.status.Ending.TheVariants.{Done, Scheduled, Refused}

-- an ending of an input that was read to its end
abbrev pub IsDone : Ending → Type 0
IsDone (Done note) = Unit {0}
IsDone (Scheduled outcome) = Unit {0}
IsDone (Refused refusal) = ⊥

-- More bytes may still change it: it is no refusal, or one for a reason that is open.
abbrev pub MayEndBy : (Reason → Bool) → Ending → Type 0
MayEndBy is_open (Refused refusal) = is_open refusal.reason ≡ true
MayEndBy is_open other = Unit {0}

-- over a stream, where only a short field is
abbrev pub MayEndOtherwise : Ending → Type 0
MayEndOtherwise ending = MayEndBy is_truncated ending

-- the open reasons of raw video: a picture that is not whole, and half a frame
abbrev pub is_unfinished : Reason → Bool
is_unfinished RawTruncated = true
is_unfinished HalfFrame = true
is_unfinished other = false

-- over raw video
abbrev pub MayEndLater : Ending → Type 0
MayEndLater ending = MayEndBy is_unfinished ending

-- an ending without a last text
abbrev pub plain_close : Ending → Close Ending
plain_close ending = record { ending = ending; last = [] }

-- that of a stream of so many pictures, slices and bytes which was accepted, with its line
abbrev pub accepted_close : ℕ → ℕ → ℕ → Close Ending
accepted_close pictures slices bytes = record { ending = Done Nothing; last = accepted_line pictures slices bytes }

-- and with how a schedule came out, with its lines
abbrev pub replayed_close : ℕ → ℕ → ℕ → Outcome → Close Ending
replayed_close pictures slices bytes outcome = record { ending = Scheduled outcome; last = replayed_lines pictures slices bytes outcome }
