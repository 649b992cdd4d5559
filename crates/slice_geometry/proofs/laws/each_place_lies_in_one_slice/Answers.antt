use Rattle.slice_geometry.proofs.Places.{held, alone}
use Rattle.slice_geometry.proofs.laws.each_place_lies_in_one_slice.Goals as goal

pub returns : goal.returns
returns c = record { held = held; alone = alone }
