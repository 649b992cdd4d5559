use Rattle.slice_store.proofs.Even.{AreDealt}
use Rattle.slice_store.proofs.deal.Given as goal

abbrev pub invariant-loop-sx : goal.invariant-loop-sx
invariant-loop-sx g l = AreDealt g.T.Number.none l.at l.size l.count l.row l.fn.numbers l.sx l.numbers
