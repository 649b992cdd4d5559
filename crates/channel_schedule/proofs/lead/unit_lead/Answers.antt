use Rattle.std.proofs.Common.{◌≡◌, ◌+◌, ◌-◌, ◌*◌, arith, refl}
use Rattle.slice_geometry.specs.Slicing.{bytes_before}
use Rattle.channel_schedule.specs.Plans.{asked_in, lead_in}
use Rattle.channel_schedule.proofs.Greatest.{greatest_moved}
use Rattle.channel_schedule.proofs.Steps.{lead_of_asked}
use Rattle.channel_schedule.proofs.lead.unit_lead.Goals as goal

pub returns : goal.returns
returns c =
    let u = c.args.unit in
    let r = c.args.rate in
    let most = c.args.most in
    let is : c.saturating_sub.result ≡ (u.start + u.head) * r.den + most - (c.args.slot + u.slices) * r.num =
    rw (c.saturating_sub.ensures, c.from.ensures, c.from-2.ensures, c.from-3.ensures, c.from-4.ensures, c.from-5.ensures) refl in
    rw is (greatest_moved (asked_in u r) (lead_in u r c.args.slot) u.slices most ((u.start + u.head) * r.den) ((c.args.slot + u.slices) * r.num) (omega arith)
    (λ j low. lead_of_asked (u.start + u.head) (bytes_before u.a u.b (j + 1)) r.num r.den c.args.slot u.slices j low) c.requires.most)
