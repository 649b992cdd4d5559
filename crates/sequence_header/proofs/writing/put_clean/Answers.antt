use Rattle.std.proofs.Common.{arith}
use Rattle.std.proofs.lemmas.Grind.{common_steps}
use Rattle.sequence_header.proofs.writing.put_clean.Goals as goal

pub put_uint-requires-2 : goal.put_uint-requires-2
put_uint-requires-2 c = grind (arith, common_steps)

pub put_uint-requires-4 : goal.put_uint-requires-4
put_uint-requires-4 c = grind (arith, common_steps)

pub put_uint-requires : goal.put_uint-requires
put_uint-requires c = grind (arith, common_steps)

pub put_uint-requires-3 : goal.put_uint-requires-3
put_uint-requires-3 c = grind (arith, common_steps)
