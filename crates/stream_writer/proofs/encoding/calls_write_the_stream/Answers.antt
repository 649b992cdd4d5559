use Rattle.stream_writer.proofs.WriterCalls.{calls_write}
use Rattle.stream_writer.proofs.encoding.calls_write_the_stream.Goals as goal

pub returns : goal.returns
returns c = calls_write
