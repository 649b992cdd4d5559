use Rattle.std.proofs.Common.{arith}
use Rattle.std.proofs.lemmas.Grind.{common_steps}
use Rattle.picture_codec.proofs.decoded_bands.DecodedBands.show.Goals as goal

pub show_in_16_bits-requires-clause-taken : goal.show_in_16_bits-requires-clause-taken
show_in_16_bits-requires-clause-taken c = grind (arith, common_steps)

pub show_short-requires-clause-beside : goal.show_short-requires-clause-beside
show_short-requires-clause-beside c = grind (arith, common_steps)

pub show_short-requires-clause-room : goal.show_short-requires-clause-room
show_short-requires-clause-room c = grind (arith, common_steps)

pub invariant_of-self : goal.invariant_of-self
invariant_of-self c = grind (arith, common_steps)

pub invariant_of-self-else-not-show_in_16_bits : goal.invariant_of-self-else-not-show_in_16_bits
invariant_of-self-else-not-show_in_16_bits c = grind (arith, common_steps)
