use Rattle.std.proofs.Common.{◌+◌}
use Rattle.planes.specs.Valued.{valued}
use Rattle.lifting.proofs.Lanes.{are_lanes, twice_within}
use Rattle.lifting.proofs.laned.loaded.Goals as goal

pub load-requires-clause-small : goal.load-requires-clause-small
load-requires-clause-small g c i lt = twice_within g.T.Number.reach _ (c.requires.small i lt)

pub returns-clause-small : goal.returns-clause-small
returns-clause-small g c =
    let row = valued g.T.Number.value g.T.Number.none c.args.row.now in
    are_lanes g.T.Number.reach (λ i. row (c.args.at + i)) (g.T.Laned.lanes c.load.result) c.load.ensures.small.count c.load.ensures.each c.requires.small
