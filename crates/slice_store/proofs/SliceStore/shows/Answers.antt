use Rattle.slice_store.proofs.Stacked.{sizes_shown, place_shown}
use Rattle.slice_store.proofs.SliceStore.shows.Goals as goal

pub returns-clause-sizes : goal.returns-clause-sizes
returns-clause-sizes g c = sizes_shown g.T.Number.value g.T.Number.none c.args.self.now

pub returns-clause-places : goal.returns-clause-places
returns-clause-places g c = place_shown g.T.Number.value g.T.Number.none c.args.self.now
