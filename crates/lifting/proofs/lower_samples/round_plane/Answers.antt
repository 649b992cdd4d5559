use Rattle.std.proofs.Common.{arith}
use Rattle.std.proofs.lemmas.Grind.{common_steps}
use Rattle.lifting.proofs.lower_samples.round_plane.Goals as goal

pub loop-y-preserved : goal.loop-y-preserved
loop-y-preserved g c = grind (arith, common_steps)
