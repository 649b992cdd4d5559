use Rattle.std.proofs.Common.{arith}
use Rattle.std.proofs.lemmas.Grind.{common_steps}
use Rattle.std.proofs.lemmas.Int.{ints}
use Rattle.slice_store.proofs.gathered.take_row.Goals as goal

pub offset_bounds-to-x : goal.offset_bounds-to-x
offset_bounds-to-x g c = grind (ints, arith, common_steps)

pub loop-x-preserved : goal.loop-x-preserved
loop-x-preserved g c = grind (ints, arith, common_steps)
