-- The command `check` with a schedule: nothing before the end, and there the counts, and whether the schedule runs.
use Rattle.std.specs.Prelude.{ℕ, ◌+◌, List, [], ◌∷◌, ◌++◌, length}
use Rattle.run_theory.specs.Walk.{Machine}
use Rattle.slice_geometry.specs.declared.unit_list.UnitShape.{UnitShape}
use Rattle.slice_geometry.specs.UnitLengths.{UnitShapesSeen}
use Rattle.run_theory.specs.Fronts.{Between, Command, machine_of}
use Rattle.stream_rows.specs.declared.reason.Reason.{Reason}
use Rattle.stream_rows.specs.Units.{Past, nothing_yet, DataUnit, units}
use Rattle.stream_rows.specs.Streams.{limit, past_limit, refusal_of}
use Rattle.stream_reader.specs.Turns.{shape_of}
use Rattle.channel_schedule.specs.declared.schedule.Schedule.{Schedule}
use Rattle.channel_schedule.specs.declared.schedule.Outcome.{Outcome}
use Rattle.channel_schedule.specs.Courses.{course_of, count_in, outcome_from}
use Rattle.vc2_cli.specs.Decode.{unit_pictures, unit_slices}
use Rattle.vc2_cli.specs.Endings.{plain_close, replayed_close}
use Rattle.vc2_cli.specs.declared.status.Ending.{Ending}
use Rattle.vc2_cli.specs.declared.status.Ending.TheVariants.{Done, Refused}
use Rattle.vc2_cli.specs.declared.status.Note.TheVariants.{Nothing}

-- the schedule that is asked for, and of the units so far the numbers of pictures and slices and the shapes
pub record Replayed : Type 0 where
  pub schedule : Schedule
  pub pictures : ℕ
  pub slices : ℕ
  pub shapes : List UnitShape

-- no picture so far
abbrev pub nothing_replayed : Schedule → Replayed
nothing_replayed schedule = record { schedule = schedule; pictures = 0; slices = 0; shapes = [] }

-- units of so many bytes in all
abbrev pub shapes_in : List UnitShape → ℕ → UnitShapesSeen
shapes_in units total = record { units = units; total = total; spare = 0 }

-- how the slices of these units and the tail of the stream come out, the stream having so many bytes
abbrev pub outcome_of : Schedule → List UnitShape → ℕ → Outcome
outcome_of schedule units total = outcome_from (course_of
    (shapes_in units total) schedule.rate schedule.idle schedule.delay) schedule.size 0 (count_in (shapes_in units total))

-- check with a schedule: the units are counted and their shapes kept
abbrev pub replaying : Schedule → Command Past Reason DataUnit Replayed Ending
replaying schedule = record {
  opening = [];
  start = nothing_replayed schedule;
  next = λ z own unit bytes. record {
    schedule = own.schedule;
    pictures = own.pictures + unit_pictures unit;
    slices = own.slices + unit_slices unit;
    shapes = own.shapes ++ shape_of z unit bytes ∷ [];
  };
  text = λ z own unit bytes. [];
  finished = λ z own unit bytes. replayed_close own.pictures own.slices (z.place + length bytes)
      (outcome_of own.schedule (own.shapes ++ shape_of z unit bytes ∷ []) (z.place + length bytes));
  rested = λ z own. plain_close (Done Nothing);
  refused = λ z own fault. plain_close (Refused (refusal_of fault));
  endless = Done Nothing;
}

-- that over the units of a stream
abbrev pub replay_machine : Schedule → Machine (Between Past Replayed) Ending
replay_machine schedule = machine_of limit past_limit units nothing_yet (replaying schedule)

-- ---- for the code

-- the command but for its schedule, which what it begins with has
abbrev pub replaying_any : Command Past Reason DataUnit Replayed Ending
replaying_any = replaying (record { rate = record { num = 1; den = 1 }; delay = 0; size = 0; idle = 0 })
