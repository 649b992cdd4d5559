use Rattle.std.proofs.Common.{arith}
use Rattle.std.proofs.lemmas.Grind.{common_steps}
use Rattle.std.proofs.lemmas.Int.{ints}
use Rattle.bounded_blocks.proofs.filling.put_four.Goals as goal

pub loop-i-preserved : goal.loop-i-preserved
loop-i-preserved c = grind (ints, arith, common_steps)
