use Rattle.std.proofs.Common.{◌+◌, ◌-◌, ◌^◌, arith}
use mir.Syntax.{w16}
use Rattle.lifting.proofs.LaneSamples.{offset_casts, offset_each}
use Rattle.lifting.proofs.samples.I16Sampled.offset_block.Goals as goal

pub overflow_cast-result : goal.overflow_cast-result
overflow_cast-result c = offset_casts w16 (2 ^ 14) (2 ^ 14 - 2 + (2 ^ 14 - 2)) (omega arith) (omega arith) (omega arith) c.args.half c.requires.some c.requires.most c.args.v c.requires.small

pub returns-clause-each : goal.returns-clause-each
returns-clause-each c i lt = offset_each w16 (2 ^ 14) (2 ^ 14 - 2 + (2 ^ 14 - 2)) (omega arith) (omega arith) (omega arith) c.args.half c.requires.some c.requires.most c.args.v c.requires.small i lt
