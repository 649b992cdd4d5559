use Rattle.std.proofs.Common.{arith}
use Rattle.slice_encoder.proofs.limits.LimitRows.new.Goals as goal

pub invariant_of-result : goal.invariant_of-result
invariant_of-result g c = record {
  some = omega (arith, c.clamp-room.ensures, c.requires.some);
  most = omega (arith, c.clamp-room.ensures, c.requires.most);
  whole = grind (arith, c.clamp-room.ensures, c.padded.ensures.value, c.requires.whole);
  count = omega (arith, c.loop.invariant.count, c.loop-test.false, c.loop.auto.counter-end);
  each = c.loop.invariant.each;
}
