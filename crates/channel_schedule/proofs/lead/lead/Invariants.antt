use Rattle.std.proofs.Common.{◌≡◌, ◌≤◌, ◌^◌, take}
use Rattle.channel_schedule.specs.Slices.{slices_in, slots_to}
use Rattle.channel_schedule.specs.Plans.{IsGreatest, lead_of, asked_in}
use Rattle.channel_schedule.proofs.lead.lead.Given as goal

abbrev pub invariant-loop-i : goal.invariant-loop-i
invariant-loop-i l = record {
  slot_is : l.slot ≡ slots_to l.fn.idle l.shapes.units (slices_in (take l.i l.shapes.units));
  low : l.slot ≤ 2 ^ 73;
  most : IsGreatest (lead_of l.shapes l.fn.rate l.fn.idle) (slices_in (take l.i l.shapes.units)) l.most;
  known : IsGreatest (asked_in l.like l.fn.rate) l.like.slices l.known;
}
