use Rattle.std.proofs.Common.{arith}
use Rattle.slice_store.proofs.cuts.Cuts.wide.Goals as goal

pub overflow_add-sx : goal.overflow_add-sx
overflow_add-sx c = omega (arith, c.requires.across, c.rules.ensures.slices.across)
