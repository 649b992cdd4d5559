use Rattle.picture_codec.proofs.Lossless.{given_back}
use Rattle.stream_writer.proofs.encoding.lossless_pictures_are_given_back.Goals as goal

pub returns : goal.returns
returns c = given_back
