use Rattle.std.proofs.Common.{arith}
use Rattle.std.proofs.lemmas.Grind.{common_steps}
use Rattle.picture_codec.proofs.picture.Picture.set.Goals as goal

pub invariant_of-self : goal.invariant_of-self
invariant_of-self c = grind (arith, common_steps)

pub invariant_of-self-in-C1 : goal.invariant_of-self-in-C1
invariant_of-self-in-C1 c = grind (arith, common_steps)

pub invariant_of-self-in-C2 : goal.invariant_of-self-in-C2
invariant_of-self-in-C2 c = grind (arith, common_steps)
