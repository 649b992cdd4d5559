use Rattle.std.proofs.Common.{◌≤◌, arith}
use Rattle.sequence_header.proofs.FieldKinds.{signal_kinds, signal_kinds_custom}
use Rattle.sequence_header.proofs.lengths.signal_bits.Goals as goal

pub returns-in-Index-clause-kinds : goal.returns-in-Index-clause-kinds
returns-in-Index-clause-kinds c =
    let some : 1 ≤ c.in-Index.index = rw c.in-Index.is at c.requires in
    rw c.in-Index.is (signal_kinds c.in-Index.index some (omega arith))

pub returns-in-Custom-clause-kinds : goal.returns-in-Custom-clause-kinds
returns-in-Custom-clause-kinds c = rw c.in-Custom.is (signal_kinds_custom c.in-Custom.range (omega arith) (omega arith) (omega arith) (omega arith))
