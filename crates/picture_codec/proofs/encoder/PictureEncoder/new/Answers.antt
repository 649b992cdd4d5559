use Rattle.std.proofs.Common.{rules}
use Rattle.picture_codec.proofs.encoder.PictureEncoder.new.Goals as goal

pub returns-in-Ok-clause-new : goal.returns-in-Ok-clause-new
returns-in-Ok-clause-new c = (c.in-Ok.ensures, c.is_steep_ok.ensures.0 (search rules))
