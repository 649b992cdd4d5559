use Rattle.std.proofs.Common.{arith}
use Rattle.sequence_header.proofs.FieldKinds.{index_kinds, index_kinds_none}
use Rattle.sequence_header.proofs.lengths.index_bits.Goals as goal

pub returns-in-None-clause-kinds : goal.returns-in-None-clause-kinds
returns-in-None-clause-kinds c = rw c.in-None.is index_kinds_none

pub returns-in-Some-clause-kinds : goal.returns-in-Some-clause-kinds
returns-in-Some-clause-kinds c = rw c.in-Some.is (index_kinds c.in-Some.index (omega arith))
