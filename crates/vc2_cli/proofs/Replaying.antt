-- What `check` with a schedule makes of a unit that was read.
use Rattle.std.proofs.Common.{◌≡◌, ℕ, ◌+◌, List, [], ◌∷◌, ◌++◌, length, ap, ◌∙◌}
use Rattle.run_theory.specs.Walk.{IsMachine}
use Rattle.slice_geometry.specs.declared.unit_list.UnitShape.{UnitShape}
use Rattle.slice_geometry.specs.UnitLengths.{UnitShapesSeen}
use Rattle.stream_reader.specs.Turns.{shape_of}
use Rattle.stream_reader.specs.declared.stop.Item.{Item}
use Rattle.stream_reader.specs.StreamTable.{StreamTableSeen}
use Rattle.channel_schedule.specs.declared.schedule.Schedule.{Schedule}
use Rattle.channel_schedule.specs.declared.schedule.Outcome.{Outcome}
use Rattle.channel_schedule.specs.Courses.{course_of, count_in, IsOutcome}
use Rattle.channel_schedule.proofs.Unique.{one_outcome}
use Rattle.unit_reader.proofs.Opens.{IsOpenMachine}
use Rattle.vc2_cli.specs.Endings.{MayEndOtherwise, replayed_close}
use Rattle.vc2_cli.proofs.Decoding.{stream_laws, stream_opens}
use Rattle.vc2_cli.proofs.Passing.{PassesUnit, place_is}
use Rattle.vc2_cli.specs.Scheduled.{outcome_of, replaying, replaying_any, replay_machine}

pub replay_laws : (schedule : Schedule) → IsMachine (replay_machine schedule)
replay_laws schedule = stream_laws (replaying schedule)

pub replay_opens : (schedule : Schedule) → IsOpenMachine MayEndOtherwise (replay_machine schedule)
replay_opens schedule = stream_opens (replaying schedule) (record { finished = λ z w unit bytes. tt; rested = λ z w. tt; refused = λ z w fault short. short })

-- the outcome, as a value
outcome_is : (shapes : UnitShapesSeen) (units : List UnitShape) (total : ℕ) (schedule : Schedule) (outcome : Outcome) → shapes.units ≡ units → shapes.total ≡ total
    → IsOutcome (course_of shapes schedule.rate schedule.idle schedule.delay) schedule.size (count_in shapes) outcome → outcome ≡ outcome_of schedule units total
outcome_is shapes units total schedule outcome same_units same_total is =
    (one_outcome (course_of shapes schedule.rate schedule.idle schedule.delay) schedule.size (count_in shapes)).only outcome is
    ∙ ap (λ (l : List UnitShape). outcome_of schedule l shapes.total) same_units
    ∙ ap (λ (t : ℕ). outcome_of schedule units t) same_total

-- the ending of a stream
pub ending_is : (schedule : Schedule) (slices pictures taken : ℕ) (outcome : Outcome) (before now : StreamTableSeen) (item : Item) (shapes : UnitShapesSeen) (p : PassesUnit before now item)
    → taken ≡ now.past.place → shapes.units ≡ now.shapes.units → shapes.total ≡ now.past.place
    → IsOutcome (course_of shapes schedule.rate schedule.idle schedule.delay) schedule.size (count_in shapes) outcome
    → replayed_close pictures slices taken outcome ≡ replaying_any.finished before.past (record { schedule = schedule; pictures = pictures; slices = slices; shapes = before.shapes.units }) p.unit p.bytes
ending_is schedule slices pictures taken outcome before now item shapes p is_taken is_units is_total is =
    let place : now.past.place ≡ before.past.place + length p.bytes = place_is before now item p in
    let all = before.shapes.units ++ shape_of before.past p.unit p.bytes ∷ [] in
    let same_outcome : outcome ≡ outcome_of schedule all (before.past.place + length p.bytes) = outcome_is shapes all (before.past.place + length p.bytes) schedule outcome (is_units ∙ p.tells.shapes) (is_total ∙ place) is in
    ap (λ n. replayed_close pictures slices n outcome) (is_taken ∙ place)
    ∙ ap (λ o. replayed_close pictures slices (before.past.place + length p.bytes) o) same_outcome
