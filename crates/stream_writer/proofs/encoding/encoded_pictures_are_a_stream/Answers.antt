use Rattle.stream_writer.proofs.EncodedPictures.{pictures_stream}
use Rattle.stream_writer.proofs.encoding.encoded_pictures_are_a_stream.Goals as goal

pub returns : goal.returns
returns c = pictures_stream
