use Rattle.std.proofs.Common.{arith}
use Rattle.sequence_header.proofs.FieldKinds.{sampling_kinds}
use Rattle.sequence_header.proofs.lengths.sampling_bits.Goals as goal

pub returns-clause-kinds : goal.returns-clause-kinds
returns-clause-kinds c = λ size. sampling_kinds size c.args.index (omega arith)
