use Rattle.std.proofs.Common.{◌≡◌, ◌∙◌, refl, sym, ap, arith}
use Rattle.planes.specs.Raster.{Grid}
use Rattle.planes.specs.Valued.{grid_of}
use Rattle.dc_prediction.proofs.PredictionLemmas.{prediction_corner, prediction_first_row, prediction_first_column, prediction_inside}
use Rattle.dc_prediction.proofs.predict_of.Goals as goal

pub returns-then-x-eq0 : goal.returns-then-x-eq0
returns-then-x-eq0 g c =
    let grid : Grid = grid_of g.T.Number.value g.T.Number.none c.args.plane.now in
    let ey : c.args.y ≡ 0 = omega arith in
    let ex : c.args.x ≡ 0 = omega arith in
    rw (ey, ex) (c.zero.ensures ∙ sym (prediction_corner grid))

pub returns-else-x-eq0 : goal.returns-else-x-eq0
returns-else-x-eq0 g c =
    let grid : Grid = grid_of g.T.Number.value g.T.Number.none c.args.plane.now in
    let ey : c.args.y ≡ 0 = omega arith in
    rw ey (ap g.T.Number.value c.get.ensures ∙ sym (prediction_first_row grid c.args.x (omega arith)))

pub returns-then-x-eq0-2 : goal.returns-then-x-eq0-2
returns-then-x-eq0-2 g c =
    let grid : Grid = grid_of g.T.Number.value g.T.Number.none c.args.plane.now in
    let ex : c.args.x ≡ 0 = omega arith in
    rw ex (ap g.T.Number.value c.get-then-x-eq0-2.ensures ∙ sym (prediction_first_column grid c.args.y (omega arith)))

pub returns-else-x-eq0-2 : goal.returns-else-x-eq0-2
returns-else-x-eq0-2 g c =
    let grid : Grid = grid_of g.T.Number.value g.T.Number.none c.args.plane.now in
    c.mean_of.ensures
    ∙ rw (c.get-else-x-eq0-2.ensures, c.get-else-x-eq0-2-2.ensures, c.get-else-x-eq0-2-3.ensures) refl
    ∙ sym (prediction_inside grid c.args.y c.args.x (omega arith) (omega arith))
