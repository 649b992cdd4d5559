use Rattle.stream_writer.proofs.WriterCalls.{calls_stream}
use Rattle.stream_writer.proofs.encoding.calls_write_a_stream.Goals as goal

pub returns : goal.returns
returns c = calls_stream
