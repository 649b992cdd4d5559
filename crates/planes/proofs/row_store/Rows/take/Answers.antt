use Rattle.std.proofs.Common.{ap, ◌∙◌, arith}
use Rattle.planes.specs.Inside.{rows_of}
use Rattle.planes.proofs.RowLoans.{shown_past, no_numbers}
use Rattle.planes.proofs.row_store.Rows.take.Goals as goal

pub returns-clause-value : goal.returns-clause-value
returns-clause-value g c =
    ap (λ rows. record { w = c.args.w; rows = rows })
    (shown_past c.args.w c.args.h c.swap.new.self c.args.h c.swap-2.new.x.items (omega arith) ∙ ap (rows_of c.args.w c.args.h) c.swap.ensures.taken)

pub returns-clause-left : goal.returns-clause-left
returns-clause-left g c = c.swap.ensures.left ∙ no_numbers c.self.inside c.args.self.now c.self.invariant c.self.view_is c.requires.none
