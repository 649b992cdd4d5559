use Rattle.std.proofs.Common.{◌≡◌, ◌∙◌, refl, sym, ap, subst, ◌+◌, ℤ, ◌+ℤ◌}
use Rattle.std.specs.Prelude.{slice_index_or}
use Rattle.planes.specs.Raster.{Grid, row_of, with_place}
use Rattle.planes.specs.Rect.{IsInRect}
use Rattle.planes.specs.Valued.{grid_of}
use Rattle.dc_prediction.specs.Prediction.{prediction}
use Rattle.dc_prediction.specs.Restoring.{row_rect}
use Rattle.dc_prediction.specs.AnyWidth.{Restores}
use Rattle.dc_prediction.proofs.Places.{own_small, near_in_room, prediction_small, sum_in_room, place_restores, place_stops}
use Rattle.dc_prediction.proofs.restore_place.Goals as goal
use Rattle.dc_prediction.proofs.restore_place.Goals.{After-add-value}

pub predict_of-requires-clause-small : goal.predict_of-requires-clause-small
predict_of-requires-clause-small g c =
    near_in_room g.T.Predicted.most g.T.Number.reach g.T.Predicted.limit g.met.T.Predicted.rise_law c.args.y c.args.x (grid_of g.T.Number.value g.T.Number.none c.args.plane.now) c.requires.may

pub add-value-requires : goal.add-value-requires
add-value-requires g c =
    let t = g.T in
    let grid : Grid = grid_of t.Number.value t.Number.none c.args.plane.now in
    let a : ℤ = t.Number.value c.get.result in
    let b : ℤ = t.Number.value c.predict_of.result in
    g.met.T.Number.can_add_law c.get.result c.predict_of.result
    (g.met.T.Number.fits_law (a +ℤ b)
    (sum_in_room t.Predicted.most t.Number.reach t.Predicted.limit g.met.T.Predicted.rise_law c.args.y c.args.x grid c.requires.may g.met.T.Predicted.most_law a b (ap t.Number.value c.get.ensures) c.predict_of.ensures))

sum_is : (g : _) (c : After-add-value g) → g.T.Number.value c.add-value.result ≡ grid_of g.T.Number.value g.T.Number.none c.args.plane.now c.args.y c.args.x +ℤ prediction (grid_of g.T.Number.value g.T.Number.none c.args.plane.now) c.args.y c.args.x
sum_is g c =
    let t = g.T in
    let grid : Grid = grid_of t.Number.value t.Number.none c.args.plane.now in
    let a : ℤ = t.Number.value c.get.result in
    let b : ℤ = t.Number.value c.predict_of.result in
    let own : a ≡ grid c.args.y c.args.x = ap t.Number.value c.get.ensures in
    g.met.T.Number.add_law c.get.result c.predict_of.result c.add-value.result c.add-value.ensures
    (g.met.T.Number.fits_law (a +ℤ b)
    (sum_in_room t.Predicted.most t.Number.reach t.Predicted.limit g.met.T.Predicted.rise_law c.args.y c.args.x grid c.requires.may g.met.T.Predicted.most_law a b own c.predict_of.ensures))
    ∙ rw (own, c.predict_of.ensures) refl

pub returns-then-not-is_kept-clause-stopped : goal.returns-then-not-is_kept-clause-stopped
returns-then-not-is_kept-clause-stopped g c stopped =
    let grid : Grid = grid_of g.T.Number.value g.T.Number.none c.args.plane.now in
    place_stops g.T.Predicted.limit g.T.Predicted.keeps grid c.args.y c.args.x
    (λ kept.
    let not_kept = c.if-not-is_kept.true in
    let is_so = c.is_kept.ensures.1 (subst g.T.Predicted.keeps (sym (sum_is g c.before.before)) kept) in
    absurd cc)

pub returns-clause-restored : goal.returns-clause-restored
returns-clause-restored g c good =
    let t = g.T in
    let p = c.args.plane.now in
    let y = c.args.y in
    let x = c.args.x in
    let v = c.add-value.result in
    let grid : Grid = grid_of t.Number.value t.Number.none p in
    let sum = sum_is g c.before.before.before.before in
    let own = own_small t.Predicted.most t.Number.reach t.Predicted.limit g.met.T.Predicted.rise_law y x grid c.requires.may in
    let next = prediction_small t.Predicted.most t.Number.reach t.Predicted.limit g.met.T.Predicted.rise_law y x grid c.requires.may in
    let kept = subst t.Predicted.keeps sum (c.is_kept.ensures.0 c.if-not-is_kept.false) in
    let put : grid_of t.Number.value t.Number.none (with_place p y x v) y x ≡ t.Number.value v =
    ap (λ q. t.Number.value (slice_index_or (row_of q y) x t.Number.none)) (sym c.set.ensures.whole) ∙ ap t.Number.value c.set.ensures.here in
    subst (λ q. Restores t.Predicted.limit (IsInRect (row_rect y x (x + 1))) grid (grid_of t.Number.value t.Number.none q)) (sym c.set.ensures.whole)
    (place_restores t.Number.value t.Number.none t.Predicted.limit p y x v c.requires.y_inside put sum
    (g.met.T.Predicted.grow_law (y + x) (grid y x) (prediction grid y x) own next kept))
