use Rattle.std.proofs.Common.{arith}
use Rattle.std.proofs.lemmas.Grind.{common_steps}
use Rattle.stream_writer.proofs.written_units.write_picture_unit.Goals as goal

pub returns-clause-unit : goal.returns-clause-unit
returns-clause-unit c = grind (arith, common_steps)
