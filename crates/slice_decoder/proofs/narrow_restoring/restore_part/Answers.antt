use Rattle.std.proofs.Common.{◌^◌, arith}
use Rattle.std.proofs.lemmas.Grind.{common_steps}
use Rattle.std.proofs.lemmas.Int.{ints}
use Rattle.slice_decoder.proofs.Restores.{mid_length, low-part, part-stay, part-restored}
use Rattle.slice_decoder.proofs.narrow_restoring.restore_part.Goals as goal

pub restore_run-requires-clause-low : goal.restore_run-requires-clause-low
restore_run-requires-clause-low c low = low-part c.args.values.now c.args.from c.args.to c.args.index (c.requires.low low)

pub returns-clause-within : goal.returns-clause-within
returns-clause-within c = part-stay (2 ^ 18) c.args.values.now c.args.from c.args.to c.args.index c.restore_run.result c.requires.order c.requires.inside
    c.restore_run.ensures.within

pub returns-clause-inside : goal.returns-clause-inside
returns-clause-inside c good k low lt =
    part-restored c.args.values.now c.restore_run.new.values _ c.args.from c.args.to c.args.index k c.requires.order c.requires.inside
    (omega (arith, c.restore_run.auto.values, mid_length c.args.values.now c.args.from c.args.to c.requires.order c.requires.inside)) low lt
    (c.restore_run.ensures.values good)

pub restore_run-requires-clause-narrow : goal.restore_run-requires-clause-narrow
restore_run-requires-clause-narrow c = grind (ints, arith, common_steps)
