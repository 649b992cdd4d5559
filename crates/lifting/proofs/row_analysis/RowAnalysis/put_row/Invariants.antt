use Rattle.lifting.specs.RowAnalysis.{coming_in}
use Rattle.lifting.proofs.row_analysis.RowAnalysis.put_row.Given as goal

abbrev pub ghost-hand_down : goal.ghost-hand_down
ghost-hand_down g a = coming_in g.g a.levels.now
