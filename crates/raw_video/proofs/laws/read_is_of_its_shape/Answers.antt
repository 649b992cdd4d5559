use Rattle.raw_video.proofs.ReadBack.{of_its_shape}
use Rattle.raw_video.proofs.laws.read_is_of_its_shape.Goals as goal

pub returns : goal.returns
returns c = of_its_shape
