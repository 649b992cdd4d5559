use Rattle.std.proofs.Common.{arith}
use Rattle.std.proofs.lemmas.Int.{ints}
use Rattle.std.proofs.lemmas.Grind.{common_steps}
use Rattle.lifting.proofs.halves.lift_even_half.Goals as goal

pub stepped-requires-clause-v_small : goal.stepped-requires-clause-v_small
stepped-requires-clause-v_small g c = grind (ints, arith, common_steps)

pub stepped-requires-clause-a_small : goal.stepped-requires-clause-a_small
stepped-requires-clause-a_small g c = grind (ints, arith, common_steps)

pub stepped-requires-clause-b_small : goal.stepped-requires-clause-b_small
stepped-requires-clause-b_small g c = grind (ints, arith, common_steps)

pub returns : goal.returns
returns g c = grind (arith, common_steps)
