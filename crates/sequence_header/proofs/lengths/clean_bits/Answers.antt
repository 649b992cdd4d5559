use Rattle.std.proofs.Common.{arith}
use Rattle.sequence_header.proofs.FieldKinds.{clean_kinds, clean_kinds_none}
use Rattle.sequence_header.proofs.lengths.clean_bits.Goals as goal

pub returns-in-None-clause-kinds : goal.returns-in-None-clause-kinds
returns-in-None-clause-kinds c = rw c.in-None.is clean_kinds_none

pub returns-in-Some-clause-kinds : goal.returns-in-Some-clause-kinds
returns-in-Some-clause-kinds c = rw c.in-Some.is (clean_kinds c.in-Some.area (omega arith) (omega arith) (omega arith) (omega arith))
