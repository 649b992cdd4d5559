use Rattle.stream_writer.proofs.EncodedStreams.{encoded_stream}
use Rattle.stream_writer.proofs.encoding.encoded_is_a_stream.Goals as goal

pub returns : goal.returns
returns c = encoded_stream
