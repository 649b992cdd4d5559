use Rattle.std.proofs.Common.{arith}
use Rattle.slice_store.proofs.Even.{gather_more, piece_to}
use Rattle.slice_store.proofs.collect.Goals as goal

pub copy_part-requires-clause-there : goal.copy_part-requires-clause-there
copy_part-requires-clause-there g c = omega (arith, c.requires.there c.loop-sx.sx c.loop-sx-test.true)

pub copy_part-requires-clause-room : goal.copy_part-requires-clause-room
copy_part-requires-clause-room g c = omega (arith, piece_to c.loop-sx.sx c.args.across c.args.count c.loop-sx-test.true, c.requires.room, c.loop-sx.auto.out)

pub loop-sx-preserved : goal.loop-sx-preserved
loop-sx-preserved g c =
    gather_more g.T.Number.none c.args.at c.args.size c.args.count c.loop-sx.sx c.args.numbers.now c.loop-sx.out c.copy_part.new.out c.copy_part.ensures.done c.copy_part.ensures.before c.loop-sx.invariant
