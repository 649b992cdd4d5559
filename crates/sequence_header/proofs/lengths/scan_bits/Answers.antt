use Rattle.std.proofs.Common.{arith}
use Rattle.sequence_header.proofs.FieldKinds.{scan_kinds, scan_kinds_none}
use Rattle.sequence_header.proofs.lengths.scan_bits.Goals as goal

pub returns-in-None-clause-kinds : goal.returns-in-None-clause-kinds
returns-in-None-clause-kinds c = rw c.in-None.is scan_kinds_none

pub returns-in-Some-clause-kinds : goal.returns-in-Some-clause-kinds
returns-in-Some-clause-kinds c = rw c.in-Some.is (scan_kinds c.in-Some.index (omega arith))
