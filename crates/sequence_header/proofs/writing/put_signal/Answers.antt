use Rattle.std.proofs.Common.{arith}
use Rattle.std.proofs.lemmas.Grind.{common_steps}
use Rattle.sequence_header.proofs.writing.put_signal.Goals as goal

pub put_uint-requires-in-Custom-5 : goal.put_uint-requires-in-Custom-5
put_uint-requires-in-Custom-5 c = grind (arith, common_steps)

pub put_uint-requires-in-Custom-4 : goal.put_uint-requires-in-Custom-4
put_uint-requires-in-Custom-4 c = grind (arith, common_steps)

pub put_uint-requires-in-Custom-2 : goal.put_uint-requires-in-Custom-2
put_uint-requires-in-Custom-2 c = grind (arith, common_steps)

pub put_uint-requires-in-Custom-3 : goal.put_uint-requires-in-Custom-3
put_uint-requires-in-Custom-3 c = grind (arith, common_steps)

pub returns-in-Custom-clause-place : goal.returns-in-Custom-clause-place
returns-in-Custom-clause-place c = grind (arith, common_steps)
