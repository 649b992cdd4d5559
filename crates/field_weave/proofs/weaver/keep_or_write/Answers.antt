use Rattle.std.proofs.Common.{arith}
use Rattle.std.proofs.lemmas.Grind.{common_steps}
use Rattle.field_weave.proofs.weaver.keep_or_write.Goals as goal

pub returns-then-begun-clause-ok : goal.returns-then-begun-clause-ok
returns-then-begun-clause-ok g c = grind (arith, common_steps)

pub returns-then-begun-clause-err : goal.returns-then-begun-clause-err
returns-then-begun-clause-err g c = grind (arith, common_steps)
