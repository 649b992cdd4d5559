use Rattle.std.proofs.Common.{arith}
use Rattle.std.proofs.lemmas.Int.{ints}
use Rattle.std.proofs.lemmas.Grind.{common_steps}
use Rattle.bounded_blocks.proofs.writing.Fill.put.Goals as goal

pub returns-then-v-ne0-clause-puts : goal.returns-then-v-ne0-clause-puts
returns-then-v-ne0-clause-puts c = grind (ints, arith, common_steps)
