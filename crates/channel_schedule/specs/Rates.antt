-- Rates and schedules that a channel can have.
use Rattle.std.specs.Prelude.{◌≤◌, ◌^◌}
use Rattle.channel_schedule.specs.declared.schedule.Rate.{Rate}
use Rattle.channel_schedule.specs.declared.schedule.Schedule.{Schedule}

-- some bytes arrive, in some slots
pub record IsRate (rate : Rate) : Type 0 where
  pub some_bytes : 1 ≤ rate.num
  pub some_slots : 1 ≤ rate.den

-- and the delay has a bound
pub record IsSchedule (schedule : Schedule) : Type 0 where
  pub rate : IsRate schedule.rate
  pub short : schedule.delay ≤ 2 ^ 72
