-- The command `cut`.
use Rattle.std.specs.Prelude.{ℕ}
use Rattle.run_theory.specs.Walk.{Machine}
use Rattle.run_theory.specs.Fronts.{Between}
use Rattle.channel_schedule.specs.declared.schedule.Rate.{Rate}
use Rattle.channel_schedule.specs.Plans.{plan_of}
use Rattle.stream_rows.specs.Units.{Past}
use Rattle.stream_cut.specs.Cut.{Frames, CutEnd, CutSoFar, Whole, Refused}
use Rattle.stream_cut.specs.Cut as cutter
use Rattle.vc2_words.specs.declared.settings.CutSettings.{CutSettings}
use Rattle.vc2_cli.specs.declared.status.Ending.{Ending}
use Rattle.vc2_cli.specs.declared.status.Ending.TheVariants as ending
use Rattle.vc2_cli.specs.declared.status.Note.TheVariants as notes
use Rattle.vc2_cli.specs.Mapped.{told_as}
use Rattle.vc2_cli.specs.Scheduled.{shapes_in}

-- How a cut is told: by the least schedule at this rate, with so many idle slots, with which the new stream runs.
abbrev pub ending_of : Rate → ℕ → CutEnd → Ending
ending_of rate idle (Whole shapes total) = ending.Done (notes.Encoded (plan_of (shapes_in shapes total) rate idle))
ending_of rate idle (Refused refusal) = ending.Refused refusal

-- the frames that are asked for
abbrev pub frames_asked : CutSettings → Frames
frames_asked c = record { from = c.from; to = c.to }

-- cut, with its ending told
abbrev pub cut_command_machine : CutSettings → Machine (Between Past CutSoFar) Ending
cut_command_machine c = told_as (ending_of c.rate c.idle) (cutter.cut_machine (frames_asked c))
