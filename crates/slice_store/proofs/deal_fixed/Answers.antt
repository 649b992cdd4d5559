use Rattle.std.proofs.Common.{arith}
use Rattle.slice_store.proofs.Even.{deal_more, piece_to}
use Rattle.slice_store.proofs.deal_fixed.Goals as goal

pub copy_fixed-requires-clause-room : goal.copy_fixed-requires-clause-room
copy_fixed-requires-clause-room g c = omega (arith, c.requires.there c.loop-sx.sx c.loop-sx-test.true, c.loop-sx.auto.numbers)

pub copy_fixed-requires-clause-there : goal.copy_fixed-requires-clause-there
copy_fixed-requires-clause-there g c = omega (arith, piece_to c.loop-sx.sx c.args.across g.row.N c.loop-sx-test.true, c.requires.whole)

pub loop-sx-preserved : goal.loop-sx-preserved
loop-sx-preserved g c =
    deal_more g.T.Number.none c.args.at c.args.size g.row.N c.args.row.now c.args.numbers.now c.loop-sx.sx c.loop-sx.numbers c.copy_fixed.new.out c.requires.apart
    c.copy_fixed.ensures.done c.copy_fixed.ensures.before c.copy_fixed.ensures.behind c.loop-sx.invariant

pub returns-clause-rest : goal.returns-clause-rest
returns-clause-rest g c p other = c.loop-sx.invariant.rest p (λ j i lt li e. other j i (omega (arith, lt, c.loop-sx-test.false, c.loop-sx.auto.sx-end)) li e)
