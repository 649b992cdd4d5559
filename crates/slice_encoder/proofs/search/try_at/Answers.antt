-- `c.requires` is a tuple here, since the function has a ghost value: index, some, most, ready, gathered, looks, room.
use Rattle.slice_encoder.proofs.search.try_at.Goals as goal

pub returns-clause-holds : goal.returns-clause-holds
returns-clause-holds g c = c.count_needs.ensures c.args.kept.now c.requires.1.1.1.0 c.try_lowest.ensures.tried
