use Rattle.slice_encoder.proofs.ScaleLaws.{number_is}
use Rattle.slice_encoder.proofs.scales.scale_of.Goals as goal

pub returns : goal.returns
returns c = number_is c.args.index c.requires
