-- The least schedule at a rate.
use Rattle.std.specs.Prelude.{◌≡◌, ℕ, zero, suc, ◌+◌, ◌-◌, ◌*◌, ◌/◌, ◌%◌, ◌<◌, ◌≤◌, min, max}
use Rattle.slice_geometry.specs.UnitLengths.{UnitShapesSeen, ShapesInTurn}
use Rattle.slice_geometry.specs.declared.unit_list.UnitShape.{UnitShape}
use Rattle.slice_geometry.specs.Slicing.{bytes_before}
use Rattle.channel_schedule.specs.declared.schedule.Rate.{Rate}
use Rattle.channel_schedule.specs.declared.schedule.Schedule.{Schedule}
use Rattle.channel_schedule.specs.declared.schedule.Outcome.{Outcome}
use Rattle.channel_schedule.specs.declared.schedule.Outcome.TheVariants.{Runs}
use Rattle.channel_schedule.specs.Rates.{IsRate}
use Rattle.channel_schedule.specs.Slices.{end_of_slice, slot_end, slots_to}
use Rattle.channel_schedule.specs.Courses.{course_of, count_in, bytes_held, AreInTime, Run, IsOutcome}

-- m is the greatest of f 0 .. f (n - 1), and 0 where there are none
pub record IsGreatest (f : ℕ → ℕ) (n m : ℕ) : Type 0 where
  pub above : (k : ℕ) → k < n → f k ≤ m
  pub least : (d : ℕ) → ((k : ℕ) → k < n → f k ≤ d) → m ≤ d

-- How far slice k is ahead of a channel that gives bytes from the first slice on, in bytes times the slots of the rate.
abbrev pub lead_of : UnitShapesSeen → Rate → ℕ → ℕ → ℕ
lead_of shapes rate idle k = slot_end shapes.units shapes.total k * rate.den - slots_to idle shapes.units k * rate.num

-- the same of slice j of a unit
abbrev pub lead_in : UnitShape → Rate → ℕ → ℕ → ℕ
lead_in unit rate slot j = end_of_slice unit j * rate.den - (slot + j) * rate.num

-- what slice j of a unit asks for by its end, and leaves to the slots behind it
abbrev pub asked_in : UnitShape → Rate → ℕ → ℕ
asked_in unit rate j = bytes_before unit.a unit.b (j + 1) * rate.den + (unit.slices - j) * rate.num

-- the least delay with which all slices are in time, and the most bytes that are then held
pub record IsPlan (shapes : UnitShapesSeen) (rate : Rate) (idle delay size : ℕ) : Type 0 where
  pub in_time : AreInTime (course_of shapes rate idle delay) (count_in shapes)
  pub least : (less : ℕ) → AreInTime (course_of shapes rate idle less) (count_in shapes) → delay ≤ less
  pub most : IsGreatest (bytes_held (course_of shapes rate idle delay)) (count_in shapes) size

-- A plan runs, with no smaller delay are all slices in time, and with its delay no smaller size runs.
pub record IsLeastPlan (shapes : UnitShapesSeen) (rate : Rate) (idle delay size : ℕ) : Type 0 where
  pub runs : Run (course_of shapes rate idle delay) size (count_in shapes)
  pub no_delay : (less : ℕ) → less < delay → AreInTime (course_of shapes rate idle less) (count_in shapes) → ⊥
  pub no_size : (less : ℕ) → less < size → Run (course_of shapes rate idle delay) less (count_in shapes) → ⊥

-- No shorter delay and no smaller buffer runs than a plan's.
abbrev pub PlansAreLeast : Type 0
PlansAreLeast = (shapes : UnitShapesSeen) (rate : Rate) (idle delay size : ℕ) → IsPlan shapes rate idle delay size
    → IsLeastPlan shapes rate idle delay size

-- replayed, it comes out as one that runs, and in no other way
abbrev pub PlansReplay : Type 0
PlansReplay = (shapes : UnitShapesSeen) (rate : Rate) (idle delay size : ℕ) (outcome : Outcome)
    → IsPlan shapes rate idle delay size → IsOutcome (course_of shapes rate idle delay) size (count_in shapes) outcome
    → outcome ≡ Runs

-- ---- the plan as a number, for texts

-- the greatest of the first n values
abbrev pub greatest : (ℕ → ℕ) → ℕ → ℕ
greatest f zero = 0
greatest f (suc n) = max (greatest f n) (f n)

-- the slots that make up for the greatest lead
abbrev pub plan_delay : UnitShapesSeen → Rate → ℕ → ℕ
plan_delay shapes rate idle = greatest (lead_of shapes rate idle) (count_in shapes) / rate.num + min 1
    (greatest (lead_of shapes rate idle) (count_in shapes) % rate.num)

-- the most bytes held at once with the plan's delay
abbrev pub plan_size : UnitShapesSeen → Rate → ℕ → ℕ
plan_size shapes rate idle = greatest (bytes_held (course_of shapes rate idle (plan_delay shapes rate idle))) (count_in shapes)

-- the schedule of least delay, and of the buffer that it needs
abbrev pub plan_of : UnitShapesSeen → Rate → ℕ → Schedule
plan_of shapes rate idle =
    record { rate = rate; delay = plan_delay shapes rate idle; size = plan_size shapes rate idle; idle = idle }

-- these numbers are the plan, and no others are
pub record OnePlan (shapes : UnitShapesSeen) (rate : Rate) (idle : ℕ) : Type 0 where
  pub found : IsPlan shapes rate idle (plan_delay shapes rate idle) (plan_size shapes rate idle)
  pub only : (delay size : ℕ) → IsPlan shapes rate idle delay size → (delay ≡ plan_delay shapes rate idle)
      × (size ≡ plan_size shapes rate idle)

-- Each stream has one plan at each rate.
abbrev pub EachHasOnePlan : Type 0
EachHasOnePlan = (shapes : UnitShapesSeen) (rate : Rate) (idle : ℕ) → IsRate rate → ShapesInTurn 0 shapes.units shapes.total
    → OnePlan shapes rate idle
