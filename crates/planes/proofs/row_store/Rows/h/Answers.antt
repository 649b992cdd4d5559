use Rattle.planes.proofs.RowLoans.{height_is}
use Rattle.planes.proofs.row_store.Rows.h.Goals as goal

pub returns-clause-value : goal.returns-clause-value
returns-clause-value g c = height_is c.self.inside c.args.self.now c.self.view_is
