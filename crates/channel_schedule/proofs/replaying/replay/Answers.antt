use Rattle.std.proofs.Common.{◌≡◌, ℕ, ◌+◌, take, arith, subst, ap, ◌∙◌, refl}
use Rattle.channel_schedule.specs.Slices.{slices_in, slots_to, gone_by}
use Rattle.channel_schedule.specs.Courses.{course_of, count_in, Run}
use Rattle.channel_schedule.proofs.Units.{here, slots-none, slots-next, slots_low, all_slices}
use Rattle.channel_schedule.proofs.Runs.{goes_on-unit, goes_on-tail, gone-behind, run_of_none, run_both, fault_behind, outcome_behind}
use Rattle.channel_schedule.proofs.replaying.replay.Goals as goal

pub replay_unit-requires : goal.replay_unit-requires
replay_unit-requires c =
    let s = c.args.shapes.now in
    let l = c.loop-i in
    let h = here s.units 0 s.total l.i c.get-unit.result c.total-total.ensures.in_turn c.get-unit.ensures.value in
    record {
      rate = c.requires.rate.some_slots;
      allowed = h.allowed;
      inside = omega (arith, h.inside, c.total-total.ensures.value);
      total = c.total-total.ensures.most;
      slot = omega (arith, l.invariant.low, c.requires.short);
    }

pub gone_behind-gone-requires : goal.gone_behind-gone-requires
gone_behind-gone-requires c =
    let s = c.args.shapes.now in
    let l = c.loop-i in
    let h = here s.units 0 s.total l.i c.get-unit.result c.total-total.ensures.in_turn c.get-unit.ensures.value in
    record { allowed = h.allowed; inside = omega (arith, h.inside, c.total-total.ensures.value, c.total-total.ensures.most) }

pub overflow_add-slot : goal.overflow_add-slot
overflow_add-slot c =
    let s = c.args.shapes.now in
    let l = c.loop-i in
    let h = here s.units 0 s.total l.i c.get-unit.result c.total-total.ensures.in_turn c.get-unit.ensures.value in
    omega (arith, slots-next c.args.schedule.now.idle s.units 0 s.total l.i c.get-unit.result h, slots_low c.args.schedule.now.idle s.units s.total l.i c.get-unit.result h (omega arith) (omega (arith, c.total-total.ensures)), l.invariant.slot_is, c.total-total.ensures.value, c.total-total.ensures.most)

pub loop-i-init : goal.loop-i-init
loop-i-init c = record { slot_is = slots-none c.args.schedule.now.idle c.args.shapes.now.units; low = omega arith; gone_is = refl; run = run_of_none _ _ }

pub loop-i-preserved : goal.loop-i-preserved
loop-i-preserved c =
    let s = c.args.shapes.now in
    let l = c.loop-i in
    let h = here s.units 0 s.total l.i c.get-unit.result c.total-total.ensures.in_turn c.get-unit.ensures.value in
    let p = c.args.schedule.now in
    let slot : p.delay + l.slot ≡ p.delay + slots_to p.idle s.units (slices_in (take l.i s.units)) = omega (arith, l.invariant.slot_is) in
    let on = goes_on-unit s p.rate p.idle p.delay l.i c.total-total.result (p.delay + l.slot) l.gone c.get-unit.result h c.total-total.ensures.value slot l.invariant.gone_is in
    record {
      slot_is = omega (arith, slots-next c.args.schedule.now.idle s.units 0 s.total l.i c.get-unit.result h, l.invariant.slot_is);
      low = omega (arith, slots-next c.args.schedule.now.idle s.units 0 s.total l.i c.get-unit.result h, slots_low c.args.schedule.now.idle s.units s.total l.i c.get-unit.result h (omega arith) (omega (arith, c.total-total.ensures)), l.invariant.slot_is, c.total-total.ensures.value, c.total-total.ensures.most);
      gone_is = c.gone_behind-gone.ensures ∙ gone-behind s.units s.total l.i c.get-unit.result l.gone h l.invariant.gone_is;
      run = rw h.next (run_both (course_of s p.rate p.idle p.delay) _ p.size (slices_in (take l.i s.units)) c.get-unit.result.slices on l.invariant.run c.in-Runs.ensures);
    }

pub returns-in_default : goal.returns-in_default
returns-in_default c =
    let s = c.args.shapes.now in
    let l = c.loop-i in
    let h = here s.units 0 s.total l.i c.get-unit.result c.total-total.ensures.in_turn c.get-unit.ensures.value in
    let p = c.args.schedule.now in
    let slot : p.delay + l.slot ≡ p.delay + slots_to p.idle s.units (slices_in (take l.i s.units)) = omega (arith, l.invariant.slot_is) in
    let on = goes_on-unit s p.rate p.idle p.delay l.i c.total-total.result (p.delay + l.slot) l.gone c.get-unit.result h c.total-total.ensures.value slot l.invariant.gone_is in
    fault_behind (course_of s p.rate p.idle p.delay) _ p.size (slices_in (take l.i s.units)) c.get-unit.result.slices (count_in s) c.replay_unit.result on (omega (arith, h.next, h.part)) c.in_default.not-Runs l.invariant.run c.replay_unit.ensures

pub returns : goal.returns
returns c =
    let s = c.args.shapes.now in
    let l = c.loop-i in
    let all : slices_in (take l.i s.units) ≡ slices_in s.units = all_slices s.units l.i (omega arith) in
    let p = c.args.schedule.now in
    let course = course_of s p.rate p.idle p.delay in
    let run : Run course p.size (slices_in s.units) = subst (λ (n : ℕ). Run course p.size n) all l.invariant.run in
    let slot : p.delay + l.slot ≡ p.delay + slots_to p.idle s.units (slices_in s.units) = omega (arith, l.invariant.slot_is, ap (slots_to p.idle s.units) all) in
    let gone : l.gone ≡ gone_by s.units s.total (slices_in s.units) = l.invariant.gone_is ∙ ap (gone_by s.units s.total) all in
    let on = goes_on-tail s p.rate p.idle p.delay c.total-total.result (p.delay + l.slot) l.gone c.total-total.ensures.value slot gone in
    outcome_behind course _ p.size (slices_in s.units) 1 c.replay_tail.result on run c.replay_tail.ensures
