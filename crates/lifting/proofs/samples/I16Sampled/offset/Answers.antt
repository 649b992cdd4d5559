use Rattle.std.proofs.Common.{lit≤}
use mir.Syntax.{w16}
use Rattle.lifting.proofs.Clipped.{sum_fits, cast_fits, counted}
use Rattle.lifting.proofs.samples.I16Sampled.offset.Goals as goal

pub overflow_add-result : goal.overflow_add-result
overflow_add-result c = sum_fits w16 16384 (lit≤ tt) (lit≤ tt) c.args.half c.args.v c.clip.result c.requires.some c.requires.most c.ranges.half c.ranges.v (record { sfits = c.clip.type_inv }) c.clip.ensures

pub overflow_cast-result : goal.overflow_cast-result
overflow_cast-result c = cast_fits w16 16384 (lit≤ tt) (lit≤ tt) c.args.half c.args.v c.clip.result c.requires.some c.requires.most c.ranges.half c.ranges.v (record { sfits = c.clip.type_inv }) c.clip.ensures

pub returns : goal.returns
returns c = counted w16 16384 (lit≤ tt) (lit≤ tt) c.args.half c.args.v c.clip.result c.requires.some c.requires.most c.ranges.half c.ranges.v (record { sfits = c.clip.type_inv }) c.clip.ensures
