use Rattle.dc_prediction.proofs.Rectangles.{rect_makes_the_band}
use Rattle.dc_prediction.proofs.laws.rectangles_make_the_band.Goals as goal

pub returns : goal.returns
returns c = rect_makes_the_band
