use Rattle.std.proofs.Common.{◌≡◌, ℕ, ◌+◌, ◌*◌, arith, subst, refl}
use Rattle.channel_schedule.specs.Plans.{IsGreatest, asked_in}
use Rattle.channel_schedule.proofs.Greatest.{greatest_of_none, greatest_more}
use Rattle.channel_schedule.proofs.Steps.{ends_is, ends_low, ends_step, ends-first, ends-next, asked_low}
use Rattle.channel_schedule.proofs.lead.most_asked.Goals as goal

pub overflow_mul-asked : goal.overflow_mul-asked
overflow_mul-asked c =
    let l = c.loop-j in
    let low = ends_low l.ends c.args.unit l.j l.invariant.ends c.requires c.loop-j-test.true in
    omega (arith, asked_low c.args.unit c.args.rate.num c.from-den.result l.j l.ends.quotient c.requires low (omega arith) (omega arith))

pub overflow_add-asked : goal.overflow_add-asked
overflow_add-asked c =
    let l = c.loop-j in
    let low = ends_low l.ends c.args.unit l.j l.invariant.ends c.requires c.loop-j-test.true in
    rw (c.from-num.ensures, c.from.ensures) (omega (arith, asked_low c.args.unit c.args.rate.num c.from-den.result l.j l.ends.quotient c.requires low (omega arith) (omega arith)))

pub loop-j-init : goal.loop-j-init
loop-j-init c = record { ends = ends-first c.ends_of-ends.result c.args.unit c.ends_of-ends.ensures; most = greatest_of_none _ }

pub next-ends-requires : goal.next-ends-requires
next-ends-requires c =
    let l = c.loop-j in
    ends_step l.ends c.args.unit l.j l.invariant.ends c.requires c.loop-j-test.true (omega arith) (omega arith)

pub loop-j-preserved : goal.loop-j-preserved
loop-j-preserved c =
    let l = c.loop-j in
    let is = ends_is l.ends c.args.unit l.j l.invariant.ends in
    let here : asked_in c.args.unit c.args.rate l.j ≡ l.ends.quotient * c.from-den.result + c.from.result * c.from-num.result =
    rw (c.from-num.ensures, c.from-den.ensures, c.from.ensures, is) refl in
    record {
      ends = ends-next l.ends c.next-ends.result c.args.unit l.j c.next-ends.ensures.at l.invariant.ends;
      most = rw c.max-most.ensures (greatest_more (asked_in c.args.unit c.args.rate) l.j l.most _ l.invariant.most here);
    }

pub returns : goal.returns
returns c =
    let l = c.loop-j in
    let e : l.j ≡ c.args.unit.slices = omega arith in
    subst (λ (n : ℕ). IsGreatest (asked_in c.args.unit c.args.rate) n l.most) e l.invariant.most
