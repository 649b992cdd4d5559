use Rattle.stream_writer.proofs.EncodedStreams.{encoded_pictures}
use Rattle.stream_writer.proofs.encoding.encoded_pictures_are_shown.Goals as goal

pub returns : goal.returns
returns c = encoded_pictures
