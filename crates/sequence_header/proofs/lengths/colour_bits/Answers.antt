use Rattle.std.proofs.Common.{◌≤◌, arith}
use Rattle.sequence_header.proofs.FieldKinds.{colour_kinds, colour_kinds_none, colour_kinds_custom}
use Rattle.sequence_header.proofs.lengths.colour_bits.Goals as goal

pub returns-in-Default-clause-kinds : goal.returns-in-Default-clause-kinds
returns-in-Default-clause-kinds c = rw c.in-Default.is colour_kinds_none

pub returns-in-Index-clause-kinds : goal.returns-in-Index-clause-kinds
returns-in-Index-clause-kinds c =
    let some : 1 ≤ c.in-Index.index = rw c.in-Index.is at c.requires in
    rw c.in-Index.is (colour_kinds c.in-Index.index some (omega arith))

pub returns-in-Custom-clause-kinds : goal.returns-in-Custom-clause-kinds
returns-in-Custom-clause-kinds c = rw c.in-Custom.is (colour_kinds_custom c.in-Custom.primaries c.in-Custom.matrix c.in-Custom.transfer c.index_bits.ensures.kinds c.index_bits-in-Custom.ensures.kinds c.index_bits-in-Custom-2.ensures.kinds)
