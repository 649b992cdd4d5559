use Rattle.std.proofs.Common.{arith}
use Rattle.std.proofs.lemmas.Grind.{common_steps}
use Rattle.stream_writer.proofs.due_units.DueUnits.step.Goals as goal

pub returns-clause-units : goal.returns-clause-units
returns-clause-units c = grind (arith, common_steps)
