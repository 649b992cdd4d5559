use Rattle.slice_store.proofs.Runs.{rows_in_turn}
use Rattle.slice_store.proofs.rows_come_in_turn.Goals as goal

pub returns : goal.returns
returns c = rows_in_turn
