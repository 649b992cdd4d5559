use Rattle.slice_encoder.proofs.LowBounds.{no_greater, falls, refutes}
use Rattle.slice_encoder.proofs.laws.low_needs_are_lower.Goals as goal

pub returns : goal.returns
returns c = record { no_greater = no_greater; falls = falls; refutes = refutes }
