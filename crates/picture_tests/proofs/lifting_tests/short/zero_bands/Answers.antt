use Rattle.picture_tests.proofs.ShortRoom.{whole_rows}
use Rattle.picture_tests.proofs.lifting_tests.short.zero_bands.Goals as goal

pub new-requires-clause-h_whole : goal.new-requires-clause-h_whole
new-requires-clause-h_whole G c = whole_rows c.args.depth c.requires.few
