use Rattle.std.proofs.Common.{ap, ◌∙◌, replicate}
use Rattle.planes.specs.Inside.{rows_of}
use Rattle.planes.proofs.RowLists.{rows_of-replicate}
use Rattle.planes.proofs.late.LatePlane.make.Goals as goal

pub returns-clause-made : goal.returns-clause-made
returns-clause-made g c =
    let w = c.self.inside.w in let h = c.self.inside.h in let zero = c.self.inside.zero in
    c.take.ensures.value
    ∙ ap (λ numbers. record { w = w; rows = rows_of w h numbers }) (c.touch.ensures ∙ ap (λ n. replicate n zero) c.start_of.ensures)
    ∙ ap (λ rows. record { w = w; rows = rows }) (rows_of-replicate w h zero)
    ∙ c.self.view_is
