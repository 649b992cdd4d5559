use Rattle.bounded_blocks.proofs.FilledIsRead.{filled_is_read}
use Rattle.bounded_blocks.proofs.laws.filled_is_read.Goals as goal

pub returns : goal.returns
returns c = filled_is_read
