use Rattle.std.proofs.Common.{get_or, pos}
use mir.Syntax.{w64}
use mir.Val.{to_z, of_z}
use Rattle.planes.specs.Bounded.{IsWithin}
use Rattle.planes.proofs.BandLemmas.{one_more_true}
use Rattle.planes.proofs.is_row_within.Goals as goal

pub loop-value-preserved : goal.loop-value-preserved
loop-value-preserved c =
    one_more_true (λ k. IsWithin (to_z w64 (of_z w64 c.args.bound)) (get_or c.args.row.now k (pos 0))) c.loop-value.value-index c.loop-value.all c.is_within-all.result c.loop-value.invariant c.is_within-all.ensures
