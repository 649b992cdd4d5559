use Rattle.picture_codec.proofs.LeastIndices.{each_choice}
use Rattle.picture_codec.proofs.laws.each_has_one_choice.Goals as goal

pub returns : goal.returns
returns c = each_choice
