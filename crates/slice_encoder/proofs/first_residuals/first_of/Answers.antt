use Rattle.std.proofs.Common.{◌∙◌, ◌≤◌, ◌^◌, sym, subst, ℤ}
use Rattle.std.specs.Prelude.{unsigned_abs}
use Rattle.planes.specs.Raster.{Grid, Raster, at}
use Rattle.dc_prediction.specs.Prediction.{prediction}
use Rattle.slice_encoder.specs.RectTrials.{grid_in}
use Rattle.slice_encoder.proofs.Near.{number_read}
use Rattle.slice_encoder.proofs.FirstPlaces.{first_number, first_can, first_predicted, first_coefficient, difference_fits, difference_is, difference_small, first_there}
use Rattle.slice_encoder.proofs.first_residuals.first_of.Goals as goal

pub predict-requires-clause-small : goal.predict-requires-clause-small
predict-requires-clause-small c =
    let a = c.args in
    first_can a.rect (grid_in a.rect a.coefficients.now) a.kept.now c.requires.can c.if-rect.true c.if-rect-2.true

pub overflow_sub-result : goal.overflow_sub-result
overflow_sub-result c =
    let r = c.args.rect in
    let band : Grid = grid_in r c.args.coefficients.now in
    let kept : Raster ℤ = c.args.kept.now in
    let hc = first_coefficient r band kept c.requires.can c.if-rect.true c.if-rect-2.true in
    let hp = first_predicted r band kept c.requires.can c.if-rect.true c.if-rect-2.true in
    difference_fits (band r.y0 r.x0) (prediction (at kept) r.y0 r.x0) c.from.result c.predict.result (c.from.ensures ∙ number_read c.args.coefficients.now 0 _ (first_number r) hc) c.predict.ensures hc hp

pub returns-then-rect-2-clause-value : goal.returns-then-rect-2-clause-value
returns-then-rect-2-clause-value c =
    let r = c.args.rect in
    let band : Grid = grid_in r c.args.coefficients.now in
    let kept : Raster ℤ = c.args.kept.now in
    let hc = first_coefficient r band kept c.requires.can c.if-rect.true c.if-rect-2.true in
    let hp = first_predicted r band kept c.requires.can c.if-rect.true c.if-rect-2.true in
    difference_is (band r.y0 r.x0) (prediction (at kept) r.y0 r.x0) c.from.result c.predict.result (c.from.ensures ∙ number_read c.args.coefficients.now 0 _ (first_number r) hc) c.predict.ensures hc hp
    ∙ sym (first_there r band (at kept) c.if-rect.true c.if-rect-2.true)

pub returns-then-rect-2-clause-small : goal.returns-then-rect-2-clause-small
returns-then-rect-2-clause-small c =
    let r = c.args.rect in
    let band : Grid = grid_in r c.args.coefficients.now in
    let kept : Raster ℤ = c.args.kept.now in
    let hc = first_coefficient r band kept c.requires.can c.if-rect.true c.if-rect-2.true in
    let hp = first_predicted r band kept c.requires.can c.if-rect.true c.if-rect-2.true in
    let v : ℤ = band r.y0 r.x0 in
    let p : ℤ = prediction (at kept) r.y0 r.x0 in
    subst (λ (t : ℤ). unsigned_abs t ≤ 2 ^ 36) (sym (difference_is v p c.from.result c.predict.result (c.from.ensures ∙ number_read c.args.coefficients.now 0 _ (first_number r) hc) c.predict.ensures hc hp)) (difference_small v p c.from.result c.predict.result (c.from.ensures ∙ number_read c.args.coefficients.now 0 _ (first_number r) hc) c.predict.ensures hc hp)
