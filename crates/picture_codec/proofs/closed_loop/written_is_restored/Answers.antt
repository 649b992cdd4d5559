use Rattle.picture_codec.proofs.WrittenPictures.{written_is_restored}
use Rattle.picture_codec.proofs.closed_loop.written_is_restored.Goals as goal

pub returns : goal.returns
returns c = written_is_restored
