use Rattle.std.proofs.Common.{◌≡◌, ℕ, ◌+◌, take, arith, subst, ap, ◌∙◌, refl}
use Rattle.channel_schedule.specs.Slices.{slices_in, slots_to, gone_by}
use Rattle.channel_schedule.specs.Courses.{course_of, unit_course, bytes_held}
use Rattle.channel_schedule.specs.Plans.{IsGreatest}
use Rattle.channel_schedule.proofs.Greatest.{greatest_of_none, greatest_of_both, greatest_more}
use Rattle.channel_schedule.proofs.Units.{here, slots-none, slots-next, slots_low, all_slices}
use Rattle.channel_schedule.proofs.Runs.{goes_on-unit, goes_on-tail, gone-behind, held-on}
use Rattle.channel_schedule.proofs.fill.fill.Goals as goal

pub unit_fill-requires : goal.unit_fill-requires
unit_fill-requires c =
    let s = c.args.shapes.now in
    let l = c.loop-i in
    let h = here s.units 0 s.total l.i c.get-unit.result c.total-total.ensures.in_turn c.get-unit.ensures.value in
    record {
      rate = c.requires.rate;
      allowed = h.allowed;
      inside = omega (arith, h.inside, c.total-total.ensures.value);
      total = c.total-total.ensures.most;
      slot = omega (arith, l.invariant.low, c.requires);
    }

pub gone_behind-gone-requires : goal.gone_behind-gone-requires
gone_behind-gone-requires c =
    let s = c.args.shapes.now in
    let l = c.loop-i in
    let h = here s.units 0 s.total l.i c.get-unit.result c.total-total.ensures.in_turn c.get-unit.ensures.value in
    record { allowed = h.allowed; inside = omega (arith, h.inside, c.total-total.ensures.value, c.total-total.ensures.most) }

pub overflow_add-slot : goal.overflow_add-slot
overflow_add-slot c =
    let s = c.args.shapes.now in
    let l = c.loop-i in
    let h = here s.units 0 s.total l.i c.get-unit.result c.total-total.ensures.in_turn c.get-unit.ensures.value in
    omega (arith, slots-next c.args.idle s.units 0 s.total l.i c.get-unit.result h, slots_low c.args.idle s.units s.total l.i c.get-unit.result h (omega arith) (omega (arith, c.total-total.ensures)), l.invariant.slot_is, c.total-total.ensures.value, c.total-total.ensures.most)

pub loop-i-init : goal.loop-i-init
loop-i-init c = record { slot_is = slots-none c.args.idle c.args.shapes.now.units; low = omega arith; gone_is = refl; most = greatest_of_none _ }

pub loop-i-preserved : goal.loop-i-preserved
loop-i-preserved c =
    let s = c.args.shapes.now in
    let l = c.loop-i in
    let h = here s.units 0 s.total l.i c.get-unit.result c.total-total.ensures.in_turn c.get-unit.ensures.value in
    let slot : c.args.delay + l.slot ≡ c.args.delay + slots_to c.args.idle s.units (slices_in (take l.i s.units)) = omega (arith, l.invariant.slot_is) in
    let on = goes_on-unit s c.args.rate c.args.idle c.args.delay l.i c.total-total.result (c.args.delay + l.slot) l.gone c.get-unit.result h c.total-total.ensures.value slot l.invariant.gone_is in
    record {
      slot_is = omega (arith, slots-next c.args.idle s.units 0 s.total l.i c.get-unit.result h, l.invariant.slot_is);
      low = omega (arith, slots-next c.args.idle s.units 0 s.total l.i c.get-unit.result h, slots_low c.args.idle s.units s.total l.i c.get-unit.result h (omega arith) (omega (arith, c.total-total.ensures)), l.invariant.slot_is, c.total-total.ensures.value, c.total-total.ensures.most);
      gone_is = c.gone_behind-gone.ensures ∙ gone-behind s.units s.total l.i c.get-unit.result l.gone h l.invariant.gone_is;
      most = rw (c.max-most.ensures, h.next)
          (greatest_of_both (bytes_held (course_of s c.args.rate c.args.idle c.args.delay)) (bytes_held (unit_course c.get-unit.result c.total-total.result c.args.rate (c.args.delay + l.slot) l.gone)) (slices_in (take l.i s.units)) c.get-unit.result.slices l.most c.unit_fill.result
          (λ j low. held-on _ _ _ _ j on low) l.invariant.most c.unit_fill.ensures);
    }

pub returns : goal.returns
returns c =
    let s = c.args.shapes.now in
    let l = c.loop-i in
    let all : slices_in (take l.i s.units) ≡ slices_in s.units = all_slices s.units l.i (omega arith) in
    let course = course_of s c.args.rate c.args.idle c.args.delay in
    let most : IsGreatest (bytes_held course) (slices_in s.units) l.most = subst (λ (n : ℕ). IsGreatest (bytes_held course) n l.most) all l.invariant.most in
    let slot : c.args.delay + l.slot ≡ c.args.delay + slots_to c.args.idle s.units (slices_in s.units) = omega (arith, l.invariant.slot_is, ap (slots_to c.args.idle s.units) all) in
    let gone : l.gone ≡ gone_by s.units s.total (slices_in s.units) = l.invariant.gone_is ∙ ap (gone_by s.units s.total) all in
    let on = goes_on-tail s c.args.rate c.args.idle c.args.delay c.total-total.result (c.args.delay + l.slot) l.gone c.total-total.ensures.value slot gone in
    let none : slices_in s.units ≡ slices_in s.units + 0 = omega arith in
    let tail : bytes_held course (slices_in s.units) ≡ c.saturating_sub.result =
    ap (bytes_held course) none ∙ held-on course _ (slices_in s.units) 1 0 on (omega arith) ∙ rw (c.saturating_sub.ensures, c.arrived-have.ensures) refl in
    rw c.max.ensures (greatest_more (bytes_held course) (slices_in s.units) l.most c.saturating_sub.result most tail)
