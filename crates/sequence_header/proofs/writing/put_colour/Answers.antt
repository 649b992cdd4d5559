use Rattle.std.proofs.Common.{arith}
use Rattle.std.proofs.lemmas.Grind.{common_steps}
use Rattle.sequence_header.proofs.writing.put_colour.Goals as goal

pub put_index-requires-in-Custom-2 : goal.put_index-requires-in-Custom-2
put_index-requires-in-Custom-2 c = grind (arith, common_steps)

pub returns-in-Custom-clause-place : goal.returns-in-Custom-clause-place
returns-in-Custom-clause-place c = grind (arith, common_steps)

pub returns-in-Custom-clause-written : goal.returns-in-Custom-clause-written
returns-in-Custom-clause-written c = grind (arith, common_steps)
