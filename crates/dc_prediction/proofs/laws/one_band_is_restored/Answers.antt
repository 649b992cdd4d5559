use Rattle.dc_prediction.proofs.Bands.{is_restored, restored_again}
use Rattle.dc_prediction.proofs.laws.one_band_is_restored.Goals as goal

pub returns : goal.returns
returns c = record { one = is_restored; no_other = restored_again }
