use Rattle.std.proofs.Common.{◌^◌, arith}
use Rattle.slice_decoder.proofs.Restores.{mid_length, map-stay, part-stay, part-restored}
use Rattle.slice_decoder.proofs.restoring.restore_part.Goals as goal

pub returns-clause-small : goal.returns-clause-small
returns-clause-small c =
    part-stay (2 ^ 36) c.args.values.now c.args.from c.args.to c.args.index c.dequantise.result c.requires.order c.requires.inside
    (map-stay _ c.args.index c.dequantise.result c.dequantise.ensures.small)

pub returns-clause-inside : goal.returns-clause-inside
returns-clause-inside c good k low lt =
    part-restored c.args.values.now c.dequantise.new.values _ c.args.from c.args.to c.args.index k c.requires.order c.requires.inside
    (omega (arith, c.dequantise.auto.values, mid_length c.args.values.now c.args.from c.args.to c.requires.order c.requires.inside)) low lt
    (c.dequantise.ensures.values good)
