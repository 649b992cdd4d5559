use Rattle.std.proofs.Common.{ap, ◌∙◌, replicate, arith}
use Rattle.std.proofs.lemmas.Grind.{common_steps}
use Rattle.planes.specs.Inside.{rows_of}
use Rattle.planes.proofs.RowLists.{rows_of-replicate}
use Rattle.planes.proofs.Plane.new.Goals as goal

pub returns : goal.returns
returns g c =
    c.new.ensures
    ∙ ap (λ numbers. record { w = c.args.w; rows = rows_of c.args.w c.args.h numbers }) (c.in_ok-numbers.ensures ∙ ap (λ n. replicate n g.T.Number.none) c.start_of.ensures)
    ∙ ap (λ rows. record { w = c.args.w; rows = rows }) (rows_of-replicate c.args.w c.args.h g.T.Number.none)

pub new-requires-clause-count : goal.new-requires-clause-count
new-requires-clause-count g c = grind (arith, common_steps)

pub new-requires-clause-spare_width : goal.new-requires-clause-spare_width
new-requires-clause-spare_width g c = grind (arith, common_steps)
