use Rattle.dc_prediction.proofs.PredictionLemmas.{prediction_same}
use Rattle.dc_prediction.proofs.Bands.{restored_same}
use Rattle.dc_prediction.proofs.laws.earlier_places_alone.Goals as goal

pub returns : goal.returns
returns c = record { prediction = prediction_same; restored = restored_same }
