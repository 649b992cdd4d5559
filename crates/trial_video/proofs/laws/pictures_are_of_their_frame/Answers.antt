use Rattle.trial_video.proofs.Fits.{picture_fits}
use Rattle.trial_video.proofs.laws.pictures_are_of_their_frame.Goals as goal

pub returns : goal.returns
returns c = picture_fits
