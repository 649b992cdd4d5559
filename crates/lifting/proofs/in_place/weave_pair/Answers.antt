use Rattle.std.proofs.Common.{◌≡◌, ◌∙◌, ap, ℕ, ◌+◌, ◌-◌, ◌*◌, arith, inl, inr, ℤ, pos, List}
use Rattle.std.proofs.lemmas.Bool.{cases_eq}
use Rattle.planes.specs.Raster.{with_row}
use Rattle.planes.proofs.RasterLemmas.{height-with_row, row_of-with_row_other}
use Rattle.lifting.specs.Places.{place}
use Rattle.lifting.specs.Transform.{analysis_level}
use Rattle.lifting.proofs.LevelRows.{pair_woven}
use Rattle.lifting.proofs.TwoSides.{row_put}
use Rattle.lifting.proofs.in_place.weave_pair.Goals as goal

pub returns-clause-rows : goal.returns-clause-rows
returns-clause-rows c grid has y x low high lx =
    let l = c.args.down.now in
    let p = c.args.plane.now in
    let a : ℕ = 2 * (l.made - 1) in
    let pair = c.pair-pair.ensures in
    let first = c.weave_front.new.row in
    let second = c.weave_front-2.new.row in
    let q = with_row p a first in
    let level = analysis_level l.wavelet (2 * l.h) (2 * l.w) grid in
    elim (cases_eq y a) [
      | inl e ↦
          let whole : a + 0 ≡ a = omega arith in
          rw e
          (ap (λ (r : List ℤ). place r x) (row_of-with_row_other q (a + 1) a second (omega arith))
          ∙ row_put (λ v. v) (pos 0) p a c.row_mut.result.now first (omega (arith, c.requires.inside, c.requires.some)) c.row_mut.ensures.value c.weave_front.auto.row x
          ∙ c.weave_front.ensures.row x lx
          ∙ pair_woven l.w (l.made - 1) 0 (place c.pair-pair.result.ll.now) (place c.pair-pair.result.hl.now) level (pair.ll grid has) (pair.hl grid has) x lx
          ∙ ap (λ (j : ℕ). level j x) whole)
      | inr ne ↦
          let last : y ≡ a + 1 = omega (arith, low, high, ne) in
          rw last
          (row_put (λ v. v) (pos 0) q (a + 1) c.row_mut-2.result.now second (omega (arith, height-with_row p a first, c.requires.inside, c.requires.some)) c.row_mut-2.ensures.value c.weave_front-2.auto.row x
          ∙ c.weave_front-2.ensures.row x lx
          ∙ pair_woven l.w (l.made - 1) 1 (place c.pair-pair.result.lh.now) (place c.pair-pair.result.hh.now) level (pair.lh grid has) (pair.hh grid has) x lx)
    ]
