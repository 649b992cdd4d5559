use Rattle.std.proofs.Common.{arith}
use Rattle.std.proofs.lemmas.Grind.{common_steps}
use Rattle.transform_params.proofs.writing.put_layout.Goals as goal

pub returns-clause-place : goal.returns-clause-place
returns-clause-place c = grind (arith, common_steps)

pub put_uint-requires-3 : goal.put_uint-requires-3
put_uint-requires-3 c = grind (arith, common_steps)

pub put_uint-requires : goal.put_uint-requires
put_uint-requires c = grind (arith, common_steps)

pub put_uint-requires-5 : goal.put_uint-requires-5
put_uint-requires-5 c = grind (arith, common_steps)

pub put_uint-requires-2 : goal.put_uint-requires-2
put_uint-requires-2 c = grind (arith, common_steps)

pub put_uint-requires-4 : goal.put_uint-requires-4
put_uint-requires-4 c = grind (arith, common_steps)

pub returns-clause-written : goal.returns-clause-written
returns-clause-written c = grind (arith, common_steps)
