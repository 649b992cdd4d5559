use Rattle.lifting.proofs.LaneSamples.{woven_put, below_put}
use Rattle.lifting.proofs.samples.put_woven.Goals as goal

pub returns-clause-block : goal.returns-clause-block
returns-clause-block c i lt = woven_put c.args.even c.args.odd c.args.dst.now c.args.at c.requires.even_count c.requires.odd_count c.requires.inside i lt

pub returns-clause-below : goal.returns-clause-below
returns-clause-below c j lt = below_put c.args.even c.args.odd c.args.dst.now c.args.at c.requires.even_count c.requires.odd_count c.requires.inside j lt
