use Rattle.std.proofs.Common.{◌+◌, ◌^◌, arith}
use mir.Syntax.{w32}
use Rattle.lifting.proofs.LaneSamples.{offset_casts, offset_each}
use Rattle.lifting.proofs.samples.I32Sampled.offset_block.Goals as goal

pub overflow_cast-result : goal.overflow_cast-result
overflow_cast-result c = offset_casts w32 (2 ^ 15) (2 ^ 29 + 2 ^ 29) (omega arith) (omega arith) (omega arith) c.args.half c.requires.some c.requires.most c.args.v c.requires.small

pub returns-clause-each : goal.returns-clause-each
returns-clause-each c i lt = offset_each w32 (2 ^ 15) (2 ^ 29 + 2 ^ 29) (omega arith) (omega arith) (omega arith) c.args.half c.requires.some c.requires.most c.args.v c.requires.small i lt
