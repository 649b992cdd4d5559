use Rattle.stream_writer.proofs.PictureLists.{pictures_hold}
use Rattle.stream_writer.proofs.encoding.encoded_pictures_hold_their_lists.Goals as goal

pub returns : goal.returns
returns c = pictures_hold
