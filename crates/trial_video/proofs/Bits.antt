-- Numbers of so many bits: there is one.
use Rattle.picture_codec.proofs.Tables.{positive}
use Rattle.std.proofs.Math.Nat.{mod-lt}

pub ruleset some_bits = (positive, mod-lt)
