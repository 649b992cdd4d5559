use Rattle.picture_codec.proofs.CodedBands.{coded_is_given}
use Rattle.picture_codec.proofs.laws.each_is_given.Goals as goal

pub returns : goal.returns
returns c = coded_is_given
