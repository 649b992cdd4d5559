use Rattle.stream_writer.proofs.WriterRuns.{runs_write}
use Rattle.stream_writer.proofs.encoding.calls_write_their_pictures.Goals as goal

pub returns : goal.returns
returns c = runs_write
