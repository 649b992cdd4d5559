use Rattle.std.proofs.Common.{arith}
use Rattle.std.proofs.lemmas.Nat.{one_shl}
use Rattle.slice_geometry.proofs.Lengths.{padded_most, padded_whole}
use Rattle.slice_geometry.proofs.slice_layout.padded_length.Goals as goal

pub returns-clause-most : goal.returns-clause-most
returns-clause-most c =
    rw (one_shl c.args.depth 32 (omega arith)) (padded_most c.args.depth c.args.length c.requires.depth c.requires.length)

pub returns-clause-whole : goal.returns-clause-whole
returns-clause-whole c = rw (one_shl c.args.depth 32 (omega arith)) (padded_whole c.args.depth c.args.length)
