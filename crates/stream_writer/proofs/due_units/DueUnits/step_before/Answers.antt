use Rattle.std.proofs.Common.{arith}
use Rattle.std.proofs.lemmas.Grind.{common_steps}
use Rattle.stream_writer.proofs.due_units.DueUnits.step_before.Goals as goal

pub returns-then-begins-clause-units : goal.returns-then-begins-clause-units
returns-then-begins-clause-units c = grind (arith, common_steps)
