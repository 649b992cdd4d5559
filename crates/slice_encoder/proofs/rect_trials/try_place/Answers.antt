use Rattle.std.proofs.Common.{sym, subst, ◌+◌, ◌*◌, ◌^◌, arith}
use Rattle.planes.specs.Numbers.{Within}
use Rattle.planes.specs.Raster.{at}
use Rattle.dc_prediction.proofs.PredictionLemmas.{fits}
use Rattle.slice_encoder.proofs.PlaceByPlace.{prediction_looked}
use Rattle.slice_encoder.proofs.rect_trials.try_place.Goals as goal

pub tried-place-requires-clause-prediction_small : goal.tried-place-requires-clause-prediction_small
tried-place-requires-clause-prediction_small c =
    let small : Within (3 * 2 ^ 27 + 2) c.predict-prediction.result =
    subst (λ v. Within (3 * 2 ^ 27 + 2) v) (sym c.predict-prediction.ensures) (prediction_looked (3 * 2 ^ 27 + 2) (at c.args.kept.now) c.args.y c.args.x c.requires.looked) in
    subst (λ v. Within (3 * 2 ^ 27 + 2) v) (sym (fits (3 * 2 ^ 27 + 2) c.predict-prediction.result (omega arith) small)) small
