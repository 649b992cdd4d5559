use Rattle.std.proofs.Common.{arith}
use Rattle.std.proofs.lemmas.Grind.{common_steps}
use Rattle.sequence_header.proofs.writing.put_aspect.Goals as goal

pub put_uint-requires-in-Pair-3 : goal.put_uint-requires-in-Pair-3
put_uint-requires-in-Pair-3 c = grind (arith, common_steps)

pub put_uint-requires-in-Pair-2 : goal.put_uint-requires-in-Pair-2
put_uint-requires-in-Pair-2 c = grind (arith, common_steps)

pub put_flag-requires : goal.put_flag-requires
put_flag-requires c = grind (arith, common_steps)
