use Rattle.std.proofs.Common.{arith}
use Rattle.slice_store.proofs.cuts.Cuts.tall.Goals as goal

pub overflow_add-sy : goal.overflow_add-sy
overflow_add-sy c = omega (arith, c.requires.down, c.rules.ensures.slices.down)
