use Rattle.std.proofs.Common.{arith}
use Rattle.sequence_header.proofs.FieldKinds.{version_kinds}
use Rattle.sequence_header.proofs.lengths.version_bits.Goals as goal

pub returns-clause-kinds : goal.returns-clause-kinds
returns-clause-kinds c = version_kinds _ (omega arith) (omega arith) (omega arith)
