use Rattle.bounded_blocks.proofs.narrow_filling.look_four.Goals as goal

pub returns-clause-holds : goal.returns-clause-holds
returns-clause-holds g c = λ bytes start end have.
    c.look_on.ensures.holds bytes start end (c.look_on-done-3.ensures.holds bytes start end (c.look_on-done-2.ensures.holds bytes start end (c.look_on-done.ensures.holds bytes start end have)))
