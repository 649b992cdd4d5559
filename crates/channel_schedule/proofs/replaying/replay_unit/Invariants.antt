use Rattle.std.proofs.Common.{◌≡◌, ◌+◌, ◌*◌, ◌^◌, ◌≤◌}
use Rattle.channel_schedule.specs.Courses.{unit_course, gone_in, Run}
use Rattle.channel_schedule.specs.Stepping.{Arrives}
use Rattle.channel_schedule.proofs.Steps.{EndsAt}
use Rattle.channel_schedule.proofs.replaying.replay_unit.Given as goal

abbrev pub invariant-loop-j : goal.invariant-loop-j
invariant-loop-j l = record {
  arrives : Arrives l.steps l.total l.fn.rate (l.slot + l.j);
  low : l.steps.quotient ≤ l.total + l.j * 2 ^ 33;
  ends : EndsAt l.ends l.fn.unit l.j;
  gone_is : l.gone ≡ gone_in l.fn.gone l.fn.unit l.j;
  run : Run (unit_course l.fn.unit l.total l.fn.rate l.slot l.fn.gone) l.size l.j;
}
