use Rattle.std.proofs.Common.{arith}
use Rattle.sequence_header.proofs.FieldKinds.{size_kinds}
use Rattle.sequence_header.proofs.lengths.size_bits.Goals as goal

pub returns-clause-kinds : goal.returns-clause-kinds
returns-clause-kinds c = size_kinds _ (omega arith) (omega arith)
