-- The commands `weave` and `split`.
use Rattle.std.specs.Prelude.{ℕ, Bool, true, false, Result, Ok, Err}
use Rattle.run_theory.specs.Walk.{Machine}
use Rattle.run_theory.specs.declared.Halt.{Halt}
use Rattle.stream_rows.specs.declared.reason.Reason.TheVariants as reasons
use Rattle.stream_rows.specs.Streams.{limit, frame_under}
use Rattle.field_weave.specs.declared.Order.{Order}
use Rattle.field_weave.specs.declared.Order.TheVariants.{Top, Bottom}
use Rattle.field_weave.specs.declared.weaver.WeaveStop.{WeaveStop}
use Rattle.field_weave.specs.declared.weaver.WeaveStop.TheVariants as stops
use Rattle.raw_video.specs.PictureRuns.{BehindPictures}
use Rattle.field_weave.specs.WeaveRuns.{FieldsSoFar, WeaveEnd, weave_result}
use Rattle.field_weave.specs.WeaveRuns as weaver
use Rattle.vc2_words.specs.declared.settings.FieldVideo.{FieldVideo}
use Rattle.vc2_cli.specs.declared.status.Ending.{Ending}
use Rattle.vc2_cli.specs.declared.status.Ending.TheVariants.{Done}
use Rattle.vc2_cli.specs.declared.status.Note.TheVariants.{Nothing}
use Rattle.vc2_cli.specs.Encode.{refused_at}
use Rattle.vc2_cli.specs.Mapped.{told_as, result_told}

-- which field comes first
abbrev pub order_of : Bool → Order
order_of true = Top
order_of false = Bottom

-- how a run is told
abbrev pub ending_of : WeaveEnd → Ending
ending_of (Ok frames) = Done Nothing
ending_of (Err (stops.SampleTooLarge place)) = refused_at place reasons.SampleTooLarge
ending_of (Err (stops.RawTruncated place)) = refused_at place reasons.RawTruncated
ending_of (Err stops.TooLong) = refused_at limit reasons.StreamTooLong
ending_of (Err (stops.HalfFrame place)) = refused_at place reasons.HalfFrame
ending_of (Err other) = refused_at limit reasons.StreamTooLong

-- The machines of these fields.
abbrev pub weave_command_machine : FieldVideo → Machine (BehindPictures FieldsSoFar) Ending
weave_command_machine video = told_as ending_of (weaver.weave_machine (order_of video.top) (frame_under video.header))

-- split, with its ending told
abbrev pub split_command_machine : FieldVideo → Machine (BehindPictures ℕ) Ending
split_command_machine video = told_as ending_of (weaver.split_machine (order_of video.top) (frame_under video.header))

-- ---- for the code

-- what a weaver's result comes to
abbrev pub outcome_of : Result ℕ WeaveStop → Result Ending Halt
outcome_of result = result_told ending_of (weave_result result)
