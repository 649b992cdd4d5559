use Rattle.std.proofs.Common.{arith}
use Rattle.std.proofs.lemmas.Grind.{common_steps}
use Rattle.vc2_words.proofs.settings.broken_number.Goals as goal

pub returns-else-not-are_paired-2 : goal.returns-else-not-are_paired-2
returns-else-not-are_paired-2 c = grind (arith, common_steps)

pub returns-then-not-are_paired-2 : goal.returns-then-not-are_paired-2
returns-then-not-are_paired-2 c = grind (arith, common_steps)
