use Rattle.lifting.proofs.LevelsDue.{rows_due}
use Rattle.lifting.proofs.laws.rows_are_due.Goals as goal

pub returns : goal.returns
returns c = rows_due
