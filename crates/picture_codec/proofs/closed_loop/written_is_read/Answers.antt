use Rattle.picture_codec.proofs.ReadBack.{written_is_read}
use Rattle.picture_codec.proofs.closed_loop.written_is_read.Goals as goal

pub returns : goal.returns
returns c = written_is_read
