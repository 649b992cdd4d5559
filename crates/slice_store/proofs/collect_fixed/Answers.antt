use Rattle.std.proofs.Common.{arith}
use Rattle.slice_store.proofs.Even.{gather_more, piece_to}
use Rattle.slice_store.proofs.collect_fixed.Goals as goal

pub copy_fixed-requires-clause-there : goal.copy_fixed-requires-clause-there
copy_fixed-requires-clause-there g c = omega (arith, c.requires.there c.loop-sx.sx c.loop-sx-test.true)

pub copy_fixed-requires-clause-room : goal.copy_fixed-requires-clause-room
copy_fixed-requires-clause-room g c = omega (arith, piece_to c.loop-sx.sx c.args.across g.row.N c.loop-sx-test.true, c.requires.room, c.loop-sx.auto.out)

pub loop-sx-preserved : goal.loop-sx-preserved
loop-sx-preserved g c =
    gather_more g.T.Number.none c.args.at c.args.size g.row.N c.loop-sx.sx c.args.numbers.now c.loop-sx.out c.copy_fixed.new.out c.copy_fixed.ensures.done c.copy_fixed.ensures.before c.loop-sx.invariant
