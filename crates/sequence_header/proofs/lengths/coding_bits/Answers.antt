use Rattle.std.proofs.Common.{arith}
use Rattle.sequence_header.proofs.FieldKinds.{coding_kinds}
use Rattle.sequence_header.proofs.lengths.coding_bits.Goals as goal

pub returns-clause-kinds : goal.returns-clause-kinds
returns-clause-kinds c = λ size sampling. coding_kinds size sampling c.args.coding (omega arith)
