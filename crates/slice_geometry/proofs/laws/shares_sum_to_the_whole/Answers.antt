use Rattle.slice_geometry.proofs.Shares.{shares_sum, some_share}
use Rattle.slice_geometry.proofs.laws.shares_sum_to_the_whole.Goals as goal

pub returns : goal.returns
returns c = record { whole = shares_sum; some = some_share }
