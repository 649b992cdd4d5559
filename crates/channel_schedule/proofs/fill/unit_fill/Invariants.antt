use Rattle.std.proofs.Common.{◌≡◌, ◌+◌, ◌*◌, ◌^◌, ◌≤◌}
use Rattle.channel_schedule.specs.Courses.{unit_course, gone_in, bytes_held}
use Rattle.channel_schedule.specs.Plans.{IsGreatest}
use Rattle.channel_schedule.specs.Stepping.{Arrives}
use Rattle.channel_schedule.proofs.Steps.{EndsAt}
use Rattle.channel_schedule.proofs.fill.unit_fill.Given as goal

abbrev pub invariant-loop-j : goal.invariant-loop-j
invariant-loop-j l = record {
  arrives : Arrives l.have l.total l.fn.rate (l.slot + l._j);
  low : l.have.quotient ≤ l.total + l._j * 2 ^ 33;
  ends : EndsAt l.ends l.fn.unit l._j;
  gone_is : l.gone ≡ gone_in l.fn.gone l.fn.unit l._j;
  most : IsGreatest (bytes_held (unit_course l.fn.unit l.total l.fn.rate l.slot l.fn.gone)) l._j l.most;
}
