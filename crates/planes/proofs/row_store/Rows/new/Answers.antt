use Rattle.std.proofs.Common.{ap, ◌∙◌, arith}
use Rattle.planes.specs.Inside.{rows_of}
use Rattle.planes.proofs.RowLoans.{shown_past}
use Rattle.planes.proofs.row_store.Rows.new.Goals as goal

pub returns : goal.returns
returns g c =
    ap (λ rows. record { w = c.args.w; rows = rows })
    (shown_past c.args.w c.args.h c.new.result c.args.h c.args.spare.items (omega arith) ∙ ap (rows_of c.args.w c.args.h) c.new.ensures)
