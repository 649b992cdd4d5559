use Rattle.std.proofs.Common.{arith}
use Rattle.slice_decoder.proofs.Restores.{low_offset}
use Rattle.slice_decoder.proofs.narrow_restoring.restore_low.Goals as goal

pub overflow_cast-offset : goal.overflow_cast-offset
overflow_cast-offset c = record { fits = omega (arith, c.offset.ensures.value, low_offset _ c.args.index c.requires.index (c.requires.low 0 (omega arith))) }

pub inverse_low-requires-clause-half : goal.inverse_low-requires-clause-half
inverse_low-requires-clause-half c = omega (arith, c.offset.ensures.value, low_offset _ c.args.index c.requires.index (c.requires.low 0 (omega arith)))
