use Rattle.std.proofs.Common.{◌≡◌, ℕ, ◌^◌, take, arith, subst, ap, ◌∙◌, refl}
use Rattle.channel_schedule.specs.Slices.{slices_in, slots_to}
use Rattle.channel_schedule.specs.Plans.{IsGreatest, lead_of, lead_in}
use Rattle.channel_schedule.proofs.Greatest.{greatest_of_none, greatest_of_both, greatest_more}
use Rattle.channel_schedule.proofs.Units.{here, slots-none, slots-in, slots-next, slots_low, end_of-last, all_slices}
use Rattle.channel_schedule.proofs.Leads.{lead_low}
use Rattle.channel_schedule.proofs.lead.lead.Goals as goal

pub asked_like-known-requires-clause-allowed : goal.asked_like-known-requires-clause-allowed
asked_like-known-requires-clause-allowed c =
    let s = c.args.shapes.now in
    (here s.units 0 s.total c.loop-i.i c.get-unit.result c.total-total.ensures.in_turn c.get-unit.ensures.value).allowed

pub unit_lead-requires : goal.unit_lead-requires
unit_lead-requires c =
    let s = c.args.shapes.now in
    let l = c.loop-i in
    let h = here s.units 0 s.total l.i c.get-unit.result c.total-total.ensures.in_turn c.get-unit.ensures.value in
    record { allowed = h.allowed; inside = omega (arith, h.inside); slot = omega (arith, l.invariant.low); most = c.asked_like-known.ensures }

pub overflow_add-slot : goal.overflow_add-slot
overflow_add-slot c =
    let s = c.args.shapes.now in
    let l = c.loop-i in
    let h = here s.units 0 s.total l.i c.get-unit.result c.total-total.ensures.in_turn c.get-unit.ensures.value in
    omega (arith, slots-next c.args.idle s.units 0 s.total l.i c.get-unit.result h, slots_low c.args.idle s.units s.total l.i c.get-unit.result h (omega arith) (omega (arith, c.total-total.ensures)), l.invariant.slot_is)

pub loop-i-init : goal.loop-i-init
loop-i-init c = record { slot_is = slots-none c.args.idle c.args.shapes.now.units; low = omega arith; most = greatest_of_none _; known = greatest_of_none _ }

pub loop-i-preserved : goal.loop-i-preserved
loop-i-preserved c =
    let l = c.loop-i in
    let s = c.args.shapes.now in
    let h = here s.units 0 s.total l.i c.get-unit.result c.total-total.ensures.in_turn c.get-unit.ensures.value in
    record {
      slot_is = omega (arith, slots-next c.args.idle s.units 0 s.total l.i c.get-unit.result h, l.invariant.slot_is);
      low = omega (arith, slots-next c.args.idle s.units 0 s.total l.i c.get-unit.result h, slots_low c.args.idle s.units s.total l.i c.get-unit.result h (omega arith) (omega (arith, c.total-total.ensures)), l.invariant.slot_is, c.total-total.ensures.value, c.total-total.ensures.most);
      most = rw (c.max-most.ensures, h.next)
          (greatest_of_both (lead_of s c.args.rate c.args.idle) (lead_in c.get-unit.result c.args.rate l.slot) (slices_in (take l.i s.units)) c.get-unit.result.slices l.most c.unit_lead.result
          (λ j low. rw (h.ends j low, slots-in c.args.idle s.units 0 s.total l.i c.get-unit.result h j low, l.invariant.slot_is) refl) l.invariant.most c.unit_lead.ensures);
      known = c.asked_like-known.ensures;
    }

pub returns-clause-most : goal.returns-clause-most
returns-clause-most c =
    let l = c.loop-i in
    let s = c.args.shapes.now in
    let all : slices_in (take l.i s.units) ≡ slices_in s.units = all_slices s.units l.i (omega arith) in
    let most : IsGreatest (lead_of s c.args.rate c.args.idle) (slices_in s.units) l.most = subst (λ (n : ℕ). IsGreatest (lead_of s c.args.rate c.args.idle) n l.most) all l.invariant.most in
    let slot : l.slot ≡ slots_to c.args.idle s.units (slices_in s.units) = l.invariant.slot_is ∙ ap (slots_to c.args.idle s.units) all in
    let tail : lead_of s c.args.rate c.args.idle (slices_in s.units) ≡ c.saturating_sub.result =
    rw (c.saturating_sub.ensures, c.from.ensures, c.from-2.ensures, c.from-3.ensures, c.total-total.ensures.value, end_of-last s.units s.total, slot) refl in
    rw c.max.ensures (greatest_more (lead_of s c.args.rate c.args.idle) (slices_in s.units) l.most c.saturating_sub.result most tail)

pub returns-clause-low : goal.returns-clause-low
returns-clause-low c =
    let s = c.args.shapes.now in
    let most = returns-clause-most c in
    most.least (2 ^ 72) (λ k low. lead_low s c.args.rate c.args.idle k c.total-total.ensures.in_turn (omega (arith, c.total-total.ensures)) (omega arith))

pub returns-clause-in_turn : goal.returns-clause-in_turn
returns-clause-in_turn c = c.total-total.ensures.in_turn
