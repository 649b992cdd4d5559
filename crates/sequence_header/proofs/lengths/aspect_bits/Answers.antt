use Rattle.std.proofs.Common.{◌≤◌, arith}
use Rattle.sequence_header.proofs.FieldKinds.{aspect_kinds, aspect_kinds_none, aspect_kinds_pair}
use Rattle.sequence_header.proofs.lengths.aspect_bits.Goals as goal

pub returns-in-Default-clause-kinds : goal.returns-in-Default-clause-kinds
returns-in-Default-clause-kinds c = rw c.in-Default.is aspect_kinds_none

pub returns-in-Index-clause-kinds : goal.returns-in-Index-clause-kinds
returns-in-Index-clause-kinds c =
    let some : 1 ≤ c.in-Index.index = rw c.in-Index.is at c.requires in
    rw c.in-Index.is (aspect_kinds c.in-Index.index some (omega arith))

pub returns-in-Pair-clause-kinds : goal.returns-in-Pair-clause-kinds
returns-in-Pair-clause-kinds c = rw c.in-Pair.is (aspect_kinds_pair c.in-Pair.numerator c.in-Pair.denominator (omega arith) (omega arith))
