use Rattle.std.proofs.Common.{◌≡◌, ◌+◌, ◌/◌, ◌%◌, min, arith, ap, ◌∙◌}
use Rattle.channel_schedule.specs.declared.schedule.Schedule.{Schedule}
use Rattle.channel_schedule.specs.Plans.{plan_delay}
use Rattle.channel_schedule.proofs.Unique.{one_plan}
use Rattle.channel_schedule.proofs.Leads.{ceil_low, plan_in_time, plan_least}
use Rattle.channel_schedule.proofs.planning.plan.Goals as goal

pub fill-size-requires-clause-delay : goal.fill-size-requires-clause-delay
fill-size-requires-clause-delay c =
    let is : c.div_ceil-delay.result ≡ c.lead.result / c.args.rate.num + min 1 (c.lead.result % c.args.rate.num) = c.div_ceil-delay.ensures ∙ ap (λ n. c.lead.result / n + min 1 (c.lead.result % n)) c.from.ensures in
    omega (arith, is, ceil_low c.lead.result c.args.rate.num c.requires.some_bytes, c.lead.ensures.low)

pub returns-clause-schedule : goal.returns-clause-schedule
returns-clause-schedule c =
    let is : c.div_ceil-delay.result ≡ c.lead.result / c.args.rate.num + min 1 (c.lead.result % c.args.rate.num) = c.div_ceil-delay.ensures ∙ ap (λ n. c.lead.result / n + min 1 (c.lead.result % n)) c.from.ensures in
    record { rate = c.requires; short = omega (arith, is, ceil_low c.lead.result c.args.rate.num c.requires.some_bytes, c.lead.ensures.low) }

pub returns-clause-plan : goal.returns-clause-plan
returns-clause-plan c =
    let is : c.div_ceil-delay.result ≡ c.lead.result / c.args.rate.num + min 1 (c.lead.result % c.args.rate.num) = c.div_ceil-delay.ensures ∙ ap (λ n. c.lead.result / n + min 1 (c.lead.result % n)) c.from.ensures in
    record {
      in_time = plan_in_time c.args.shapes.now c.args.rate c.args.idle c.lead.result c.div_ceil-delay.result c.requires is c.lead.ensures.most c.lead.ensures.in_turn;
      least = plan_least c.args.shapes.now c.args.rate c.args.idle c.lead.result c.div_ceil-delay.result c.requires is c.lead.ensures.most;
      most = c.fill-size.ensures;
    }

pub returns-clause-value : goal.returns-clause-value
returns-clause-value c =
    let shapes = c.args.shapes.now in
    let rate = c.args.rate in
    let idle = c.args.idle in
    let same = (one_plan shapes rate idle c.requires c.lead.ensures.in_turn).only c.div_ceil-delay.result c.fill-size.result (returns-clause-plan c) in
    ap (λ n. let s : Schedule = record { rate = rate; delay = n; size = c.fill-size.result; idle = idle } in s) same.0
    ∙ ap (λ n. let s : Schedule = record { rate = rate; delay = plan_delay shapes rate idle; size = n; idle = idle } in s) same.1
