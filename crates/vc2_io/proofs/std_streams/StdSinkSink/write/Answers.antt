use Rattle.std.proofs.Common.{arith}
use Rattle.std.proofs.lemmas.Grind.{common_steps}
use Rattle.vc2_io.proofs.std_streams.StdSinkSink.write.Goals as goal

pub returns-in-Err-clause-failed : goal.returns-in-Err-clause-failed
returns-in-Err-clause-failed c = grind (arith, common_steps)

pub returns-then-not-is_empty-clause-failed : goal.returns-then-not-is_empty-clause-failed
returns-then-not-is_empty-clause-failed c = grind (arith, common_steps)
