use Rattle.std.proofs.Common.{◌≡◌, ℕ, ◌+◌, ◌*◌, min, arith, subst, sym, ap, ◌∙◌, refl}
use Rattle.channel_schedule.specs.Courses.{unit_course, bytes_held}
use Rattle.channel_schedule.specs.Plans.{IsGreatest}
use Rattle.channel_schedule.specs.Slices.{arrived}
use Rattle.channel_schedule.specs.Stepping.{Arrives}
use Rattle.channel_schedule.proofs.Greatest.{greatest_of_none, greatest_more}
use Rattle.channel_schedule.proofs.Steps.{ends_is, ends_low, ends_step, ends-first, ends-next, arrives_is, arrives_step, arrives-next, step_low}
use Rattle.channel_schedule.proofs.Runs.{gone-next}
use Rattle.channel_schedule.proofs.fill.unit_fill.Goals as goal

pub overflow_add-gone : goal.overflow_add-gone
overflow_add-gone c =
    let l = c.loop-j in
    omega (arith, ends_low l.ends c.args.unit l._j l.invariant.ends c.requires.allowed c.loop-j-test.true)

pub loop-j-init : goal.loop-j-init
loop-j-init c = record {
  arrives = let none : c.args.slot ≡ c.args.slot + 0 = omega arith in subst (λ (t : ℕ). Arrives c.arriving-have.result c.args.total c.args.rate t) none c.arriving-have.ensures.at;
  low = omega arith;
  ends = ends-first c.ends_of-ends.result c.args.unit c.ends_of-ends.ensures;
  gone_is = refl;
  most = greatest_of_none _;
}

pub next-have-requires : goal.next-have-requires
next-have-requires c =
    let l = c.loop-j in
    arrives_step l.have c.args.total c.args.rate (c.args.slot + l._j) l.invariant.arrives (omega arith) (omega arith) (omega (arith, l.invariant.low))

pub next-ends-requires : goal.next-ends-requires
next-ends-requires c =
    let l = c.loop-j in
    ends_step l.ends c.args.unit l._j l.invariant.ends c.requires.allowed c.loop-j-test.true (omega arith) (omega arith)

pub loop-j-preserved : goal.loop-j-preserved
loop-j-preserved c =
    let l = c.loop-j in
    let u = c.args.unit in
    let next : c.args.slot + l._j + 1 ≡ c.args.slot + (l._j + 1) = omega arith in
    let is : min l.have.quotient c.args.total ≡ arrived c.args.total c.args.rate (c.args.slot + l._j) = arrives_is l.have c.args.total c.args.rate (c.args.slot + l._j) l.invariant.arrives in
    let here : bytes_held (unit_course u c.args.total c.args.rate c.args.slot c.args.gone) l._j ≡ c.saturating_sub-fill.result =
    rw (c.saturating_sub-fill.ensures, c.min.ensures, is, l.invariant.gone_is) refl in
    let rises = step_low l.have c.args.rate.num c.args.rate.den (l.have.quotient * c.args.rate.den + l.have.remainder) l.invariant.arrives.at in
    record {
      arrives = subst (λ (t : ℕ). Arrives c.next-have.result c.args.total c.args.rate t) next (arrives-next l.have c.next-have.result c.args.total c.args.rate (c.args.slot + l._j) c.next-have.ensures.at l.invariant.arrives);
      low = omega (arith, l.invariant.low, c.next-have.ensures.high, rises);
      ends = ends-next l.ends c.next-ends.result u l._j c.next-ends.ensures.at l.invariant.ends;
      gone_is = ap (λ n. u.start + u.head + n) (ends_is l.ends u l._j l.invariant.ends) ∙ sym (gone-next c.args.gone u l._j);
      most = rw c.max-most.ensures (greatest_more (bytes_held (unit_course u c.args.total c.args.rate c.args.slot c.args.gone)) l._j l.most c.saturating_sub-fill.result l.invariant.most here);
    }

pub returns : goal.returns
returns c =
    let l = c.loop-j in
    let e : l._j ≡ c.args.unit.slices = omega arith in
    subst (λ (n : ℕ). IsGreatest (bytes_held (unit_course c.args.unit c.args.total c.args.rate c.args.slot c.args.gone)) n l.most) e l.invariant.most
