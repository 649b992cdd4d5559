use Rattle.slice_encoder.proofs.Least.{one_least}
use Rattle.slice_encoder.proofs.laws.one_least_index.Goals as goal

pub returns : goal.returns
returns c = one_least
