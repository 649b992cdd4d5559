use Rattle.std.proofs.Common.{◌∙◌, ap, ℕ, ◌+◌, ◌-◌, ◌*◌, ◌≤◌, List, length, arith}
use Rattle.std.proofs.lemmas.Grind.{common_steps}
use Rattle.planes.specs.Valued.{valued}
use Rattle.lifting.specs.Clipping.{sample_of}
use Rattle.lifting.proofs.SampleRows.{part_row, row_inside}
use Rattle.lifting.proofs.synthesis_samples.sample_row_of.Goals as goal

pub offset_bounds-samples-start : goal.offset_bounds-samples-start
offset_bounds-samples-start c = grind (arith, common_steps)

pub returns-clause-row : goal.returns-clause-row
returns-clause-row g c x lx =
    let start : ℕ = c.args.y * c.args.area.w in
    let samples = c.args.samples.now in
    let inside : start + c.args.area.w ≤ length samples = row_inside c.args.y c.args.area.h c.args.area.w (length samples) c.requires.down c.requires.shown.2 in
    part_row start (start + c.args.area.w - start) samples c.sample_band.new.dst x (omega arith) (omega (arith, c.sample_band.auto.dst))
    ∙ c.sample_band.ensures x (omega arith)
    ∙ ap (λ (row : List g.row.T.Denot). sample_of c.args.area.depth (valued g.T.Number.value g.T.Number.none row x)) c.row.ensures.value

pub returns-clause-before : goal.returns-clause-before
returns-clause-before c = grind (arith, common_steps)
