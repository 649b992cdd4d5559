use Rattle.lifting.proofs.LevelsFinal.{rows_final_are}
use Rattle.lifting.proofs.laws.rows_are_final.Goals as goal

pub returns : goal.returns
returns c = rows_final_are
