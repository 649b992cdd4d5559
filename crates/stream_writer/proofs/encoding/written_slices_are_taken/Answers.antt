use Rattle.stream_writer.proofs.WrittenSlices.{written_are_sliced}
use Rattle.stream_writer.proofs.encoding.written_slices_are_taken.Goals as goal

pub returns : goal.returns
returns c = written_are_sliced
