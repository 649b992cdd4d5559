use Rattle.channel_schedule.proofs.lead.asked_like.Goals as goal

pub returns-then-unit-like-3 : goal.returns-then-unit-like-3
returns-then-unit-like-3 c = rw (c.if-unit-like.true, c.if-unit-like-2.true, c.if-unit-like-3.true) c.requires.known
