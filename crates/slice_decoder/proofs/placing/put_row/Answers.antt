use Rattle.std.proofs.Common.{arith}
use Rattle.std.proofs.lemmas.Grind.{common_steps}
use Rattle.slice_decoder.proofs.placing.put_row.Goals as goal

pub overflow_mul-x : goal.overflow_mul-x
overflow_mul-x g c = grind (arith, common_steps)

pub offset_bounds-row-x : goal.offset_bounds-row-x
offset_bounds-row-x g c = grind (arith, common_steps)

pub loop-x-preserved : goal.loop-x-preserved
loop-x-preserved g c = grind (arith, common_steps)
