use Rattle.std.proofs.Common.{◌≡◌, ℕ, ◌+◌, ◌*◌, arith, subst, sym, ap, ◌∙◌, refl}
use Rattle.channel_schedule.specs.Courses.{unit_course, bytes_held, Run}
use Rattle.channel_schedule.specs.Slices.{arrived}
use Rattle.channel_schedule.specs.Stepping.{Arrives}
use Rattle.channel_schedule.proofs.Steps.{ends_is, ends_low, ends_step, ends-first, ends-next, arrives_is, arrives_step, arrives-next, step_low}
use Rattle.channel_schedule.proofs.Runs.{gone-next, run_of_none, run_more}
use Rattle.channel_schedule.proofs.replaying.replay_unit.Goals as goal

pub overflow_add-need : goal.overflow_add-need
overflow_add-need c =
    let l = c.loop-j in
    omega (arith, ends_low l.ends c.args.unit l.j l.invariant.ends c.requires.allowed c.loop-j-test.true)

pub loop-j-init : goal.loop-j-init
loop-j-init c = record {
  arrives = let none : c.args.slot ≡ c.args.slot + 0 = omega arith in subst (λ (t : ℕ). Arrives c.arriving-steps.result c.args.total c.args.rate t) none c.arriving-steps.ensures.at;
  low = omega arith;
  ends = ends-first c.ends_of-ends.result c.args.unit c.ends_of-ends.ensures;
  gone_is = refl;
  run = run_of_none _ _;
}

pub next-steps-requires : goal.next-steps-requires
next-steps-requires c =
    let l = c.loop-j in
    arrives_step l.steps c.args.total c.args.rate (c.args.slot + l.j) l.invariant.arrives (omega arith) (omega arith) (omega (arith, l.invariant.low))

pub next-ends-requires : goal.next-ends-requires
next-ends-requires c =
    let l = c.loop-j in
    ends_step l.ends c.args.unit l.j l.invariant.ends c.requires.allowed c.loop-j-test.true (omega arith) (omega arith)

pub returns-then-have-need : goal.returns-then-have-need
returns-then-have-need c =
    let l = c.loop-j in
    let u = c.args.unit in
    record {
      k = l.j;
      first = record { inside = c.loop-j-test.true; before = l.invariant.run };
      slot_is = omega arith;
      have_is = c.min-have.ensures ∙ arrives_is l.steps c.args.total c.args.rate (c.args.slot + l.j) l.invariant.arrives;
      need_is = ap (λ n. u.start + u.head + n) (ends_is l.ends u l.j l.invariant.ends);
      late = c.if-have-need.true;
    }

pub returns-then-fill-size : goal.returns-then-fill-size
returns-then-fill-size c =
    let l = c.loop-j in
    let u = c.args.unit in
    let have : c.min-have.result ≡ arrived c.args.total c.args.rate (c.args.slot + l.j) = c.min-have.ensures ∙ arrives_is l.steps c.args.total c.args.rate (c.args.slot + l.j) l.invariant.arrives in (
      refl,
      record {
        k = l.j;
        first = record { inside = c.loop-j-test.true; before = l.invariant.run };
        slot_is = omega arith;
        arrived = omega (arith, have, ends_is l.ends u l.j l.invariant.ends, c.if-have-need.false);
        fill_is = rw (c.saturating_sub-fill.ensures, have, l.invariant.gone_is) refl;
        over = c.if-fill-size.true;
      },
    )

pub loop-j-preserved : goal.loop-j-preserved
loop-j-preserved c =
    let l = c.loop-j in
    let u = c.args.unit in
    let course = unit_course u c.args.total c.args.rate c.args.slot c.args.gone in
    let next : c.args.slot + l.j + 1 ≡ c.args.slot + (l.j + 1) = omega arith in
    let have : c.min-have.result ≡ arrived c.args.total c.args.rate (c.args.slot + l.j) = c.min-have.ensures ∙ arrives_is l.steps c.args.total c.args.rate (c.args.slot + l.j) l.invariant.arrives in
    let fill : c.saturating_sub-fill.result ≡ bytes_held course l.j = rw (c.saturating_sub-fill.ensures, have, l.invariant.gone_is) refl in
    let rises = step_low l.steps c.args.rate.num c.args.rate.den (l.steps.quotient * c.args.rate.den + l.steps.remainder) l.invariant.arrives.at in
    record {
      arrives = subst (λ (t : ℕ). Arrives c.next-steps.result c.args.total c.args.rate t) next (arrives-next l.steps c.next-steps.result c.args.total c.args.rate (c.args.slot + l.j) c.next-steps.ensures.at l.invariant.arrives);
      low = omega (arith, l.invariant.low, c.next-steps.ensures.high, rises);
      ends = ends-next l.ends c.next-ends.result u l.j c.next-ends.ensures.at l.invariant.ends;
      gone_is = ap (λ n. u.start + u.head + n) (ends_is l.ends u l.j l.invariant.ends) ∙ sym (gone-next c.args.gone u l.j);
      run = run_more course c.args.size l.j l.invariant.run (omega (arith, have, ends_is l.ends u l.j l.invariant.ends, c.if-have-need.false)) (omega (arith, fill, c.if-fill-size.false));
    }

pub returns : goal.returns
returns c =
    let l = c.loop-j in
    let e : l.j ≡ c.args.unit.slices = omega arith in
    subst (λ (n : ℕ). Run (unit_course c.args.unit c.args.total c.args.rate c.args.slot c.args.gone) c.args.size n) e l.invariant.run
