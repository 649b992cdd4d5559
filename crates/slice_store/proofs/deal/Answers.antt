use Rattle.std.proofs.Common.{arith}
use Rattle.slice_store.proofs.Even.{deal_more, piece_to}
use Rattle.slice_store.proofs.deal.Goals as goal

pub copy_part-requires-clause-room : goal.copy_part-requires-clause-room
copy_part-requires-clause-room g c = omega (arith, c.requires.there c.loop-sx.sx c.loop-sx-test.true, c.loop-sx.auto.numbers)

pub copy_part-requires-clause-there : goal.copy_part-requires-clause-there
copy_part-requires-clause-there g c = omega (arith, piece_to c.loop-sx.sx c.args.across c.args.count c.loop-sx-test.true, c.requires.whole)

pub loop-sx-preserved : goal.loop-sx-preserved
loop-sx-preserved g c =
    deal_more g.T.Number.none c.args.at c.args.size c.args.count c.args.row.now c.args.numbers.now c.loop-sx.sx c.loop-sx.numbers c.copy_part.new.out c.requires.apart
    c.copy_part.ensures.done c.copy_part.ensures.before c.copy_part.ensures.behind c.loop-sx.invariant

pub returns-then-count-eq8-clause-rest : goal.returns-then-count-eq8-clause-rest
returns-then-count-eq8-clause-rest g c p other = c.deal_fixed.ensures.rest p (λ j i lt li e. other j i lt (omega (arith, li)) e)

pub returns-then-count-eq4-clause-rest : goal.returns-then-count-eq4-clause-rest
returns-then-count-eq4-clause-rest g c p other = c.deal_fixed-then-count-eq4.ensures.rest p (λ j i lt li e. other j i lt (omega (arith, li)) e)

pub returns-then-count-eq2-clause-rest : goal.returns-then-count-eq2-clause-rest
returns-then-count-eq2-clause-rest g c p other = c.deal_fixed-then-count-eq2.ensures.rest p (λ j i lt li e. other j i lt (omega (arith, li)) e)

pub returns-then-count-eq1-clause-rest : goal.returns-then-count-eq1-clause-rest
returns-then-count-eq1-clause-rest g c p other = c.deal_fixed-then-count-eq1.ensures.rest p (λ j i lt li e. other j i lt (omega (arith, li)) e)

pub returns-after-loop-sx-clause-rest : goal.returns-after-loop-sx-clause-rest
returns-after-loop-sx-clause-rest g c p other = c.loop-sx.invariant.rest p (λ j i lt li e. other j i (omega (arith, lt, c.loop-sx-test.false, c.loop-sx.auto.sx-end)) li e)
