use Rattle.std.proofs.Common.{◌*◌, arith}
use Rattle.slice_encoder.proofs.Cuts.{rises}
use Rattle.slice_encoder.proofs.sizes.ends_of.Goals as goal

pub overflow_sub-ends : goal.overflow_sub-ends
overflow_sub-ends c =
    let g = c.args.gathered.now in
    let k = c.loop-k.k in
    omega (arith, c.end.ensures.value, c.end-in-loop-k.ensures.value, rises g.ends (3 * g.depth) 0 k c.depth.ensures.sound.rise (omega arith) (omega (arith, c.loop-k-test.true, c.loop-k.auto.k-end, c.depth.ensures.value)))
