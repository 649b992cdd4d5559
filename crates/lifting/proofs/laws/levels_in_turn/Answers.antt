use Rattle.lifting.proofs.LevelsDue.{whole_in_turn}
use Rattle.lifting.proofs.LevelsFinal.{made_in_turn}
use Rattle.lifting.proofs.laws.levels_in_turn.Goals as goal

pub returns-clause-analysis : goal.returns-clause-analysis
returns-clause-analysis g c = whole_in_turn

pub returns-clause-synthesis : goal.returns-clause-synthesis
returns-clause-synthesis g c = made_in_turn
