use Rattle.std.proofs.Common.{arith}
use Rattle.std.proofs.lemmas.Grind.{common_steps}
use Rattle.bounded_blocks.proofs.narrow_filling.held_at.Goals as goal

pub of_value-requires : goal.of_value-requires
of_value-requires G c = grind (arith, common_steps)

pub returns-in-Is-clause-some : goal.returns-in-Is-clause-some
returns-in-Is-clause-some G c = grind (arith, common_steps)

pub returns-in_default-clause-none : goal.returns-in_default-clause-none
returns-in_default-clause-none G c = grind (arith, common_steps)
