use Rattle.lifting.proofs.Short.{max_bounds, three_bounds}
use Rattle.lifting.proofs.carried.Carried.take.Goals as goal

pub returns-clause-low : goal.returns-clause-low
returns-clause-low c m = max_bounds _ c.args.self.now.low c.front_greatest-ll.result c.max-low.result m c.max-low.ensures (c.front_greatest-ll.ensures m)

pub returns-clause-high : goal.returns-clause-high
returns-clause-high c m =
    three_bounds _ _ _ c.args.self.now.high c.front_greatest-hl.result c.front_greatest-lh.result c.front_greatest-hh.result c.max.result c.max-2.result c.max-high.result m c.max.ensures c.max-2.ensures c.max-high.ensures
    (c.front_greatest-hl.ensures m) (c.front_greatest-lh.ensures m) (c.front_greatest-hh.ensures m)
