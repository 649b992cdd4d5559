use Rattle.stream_writer.proofs.WrittenSlices.{chosen_are_sliced}
use Rattle.stream_writer.proofs.encoding.chosen_slices_are_taken.Goals as goal

pub returns : goal.returns
returns c = chosen_are_sliced
